-- Columns with one more value.
use Rattle.std.proofs.Common.{◌≡◌, ◌≢◌, ◌∙◌, ◌<◌, ◌-◌, ℕ, zero, suc, List, [], ◌∷◌, ◌++◌, length, map, get_or, set, Result, Ok, Err, Vec, Global, refl, sym, ap, arith, OnOk}
use Rattle.std.proofs.lemmas.List.{map-append, get_or-map, length-map, length-append, map-set, get_or-set_same, get_or-set_other}
use Rattle.std.proofs.Math.Seq.{map-set_same, get_or-append_seam}
use Rattle.catalog_core.specs.Texts.{Text}
use Rattle.table_import.specs.Imports.{Value, number, text, number_in, number_of, text_of}
use Rattle.table_import.specs.Growing.{kind_of, values_of, column_at, Takes, last_number}
use Rattle.table_import.specs.declared.columns.GrowingColumn.{GrowingColumn}
use Rattle.table_import.specs.declared.columns.GrowingColumn.TheVariants as column

texts_at : (texts : List Text) (place : ℕ) → number_in (get_or (map (λ one. text one) texts) place (number 0)) ≡ 0
texts_at [] place = refl
texts_at (one ∷ texts) zero = refl
texts_at (one ∷ texts) (suc place) = texts_at texts place

-- a column of texts has no numbers
pub last_of_texts : (texts : List Text) → 0 ≡ last_number (map (λ one. text one) texts)
last_of_texts texts = sym (texts_at texts (length (map (λ one. text one) texts) - 1))

-- what a step says of a good end, said of more
pub on_ok : {A E P Q : Type 0} (r : Result A E) → (P → Q) → OnOk r P → OnOk r Q
on_ok (Ok value) more holds = more holds
on_ok (Err error) more holds = holds

-- a column of numbers, and one of texts, with one more field
pub takes_number : (row place : ℕ) (field : List ℕ) (old new : Vec ℕ Global) → (value : ℕ) × (number_of row place field ≡ Ok (number value)) × (new.items ≡ old.items ++ value ∷ [])
    → Takes row place field (column.Numbers old) (column.Numbers new)
takes_number row place field old new (value, gives, items) = record {
  value = number value;
  gives = gives;
  values = rw items (map-append (λ one. number one) old.items (value ∷ []));
  kind = refl;
}

pub takes_text : (row place : ℕ) (field : List ℕ) (old new : List Text) → (text_of row place field ≡ Ok (text field)) × (new ≡ old ++ field ∷ [])
    → Takes row place field (column.Texts old) (column.Texts new)
takes_text row place field old new (gives, items) = record {
  value = text field;
  gives = gives;
  values = rw items (map-append (λ one. text one) old (field ∷ []));
  kind = refl;
}

-- the number that a column ends with is its last one
pub last_number-append : (values : List Value) (value : Value) → last_number (values ++ value ∷ []) ≡ number_in value
last_number-append values value =
    let count : length (values ++ value ∷ []) - 1 ≡ length values = rw (length-append values (value ∷ [])) (omega arith) in
    rw (count, get_or-append_seam values value [] (number 0)) refl

-- columns of which the one at a place is changed
module _ (columns : List GrowingColumn) (place : ℕ) (old new : GrowingColumn) where
  pub at_same : place < length columns → column_at (set columns place new) place ≡ values_of new
  at_same within = rw map-set (get_or-set_same (map values_of columns) place (values_of new) [] (rw (length-map columns values_of) within))

  pub at_other : (other : ℕ) → other ≢ place → column_at (set columns place new) other ≡ column_at columns other
  at_other other differ = rw map-set (get_or-set_other (map values_of columns) place other (values_of new) [] differ)

  pub at_old : place < length columns → old ≡ get_or columns place old → column_at columns place ≡ values_of old
  at_old within is = get_or-map values_of columns place old [] within ∙ ap values_of (sym is)

  pub kinds_same : old ≡ get_or columns place old → kind_of new ≡ kind_of old → map kind_of (set columns place new) ≡ map kind_of columns
  kinds_same is same = map-set_same kind_of columns place new old (same ∙ ap kind_of is)
