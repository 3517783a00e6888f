-- What holds of the rows of a text: each has lawful values, and keys that have to differ do.
use Rattle.std.proofs.Common.{◌≡◌, ◌+◌, ℕ, Bool, true, false, nat_eq, nat_lt, nat_le, List, [], ◌∷◌, ◌++◌, length, map, Option, Some, None, Result, Ok, Err, refl, inl, inr, if◌then◌else◌}
use Rattle.std.specs.List.{AllByRecursion, IsDistinct, zip}
use Rattle.std.specs.Str.{is_utf8}
use Rattle.std.proofs.lemmas.Bool.{cases_Bool, leb-true}
use Rattle.std.proofs.lemmas.Str.{IsUtf8-from_is_utf8}
use Rattle.std.proofs.lemmas.List.{map-append}
use Rattle.std.proofs.lemmas.Map.Keys.{IsDistinct-push}
use Rattle.std.specs.Cmp.{nat_eq_equiv}
use Rattle.definitions_outcomes.specs.Computed.{bind, walk}
use Rattle.definitions_outcomes.proofs.OutcomeLaws.{same_value}
use Rattle.catalog_core.specs.Texts.{max_text}
use Rattle.catalog_core.specs.declared.schemas.Kind.{Kind}
use Rattle.catalog_core.specs.declared.schemas.Kind.TheVariants as kind
use Rattle.catalog_core.specs.declared.schemas.TableDef.{TableDef}
use Rattle.table_import.specs.Steps.{walk_after}
use Rattle.table_import.specs.Records.{Record, records_in, without_header}
use Rattle.table_import.specs.Imports.{Value, Row, text, number_at, keys_at, is_number, value_in, value_of, has_count, row_of, key_place, repeats_at, is_repeated, row_after, imported}
use Rattle.table_import.specs.Growing.{IsLawful}
use Rattle.table_import.specs.declared.errors.ImportError.{ImportError}
use Rattle.table_import.specs.declared.errors.ImportError.TheVariants as refusal
use Rattle.table_import.proofs.AllLemmas.{all_push}

-- a step that went well, and the one after it
bind_ok : {A B E : Type 0} (first : Result A E) (next : A → Result B E) (given : B) → bind first next ≡ Ok given → (value : A) × (first ≡ Ok value) × (next value ≡ Ok given)
bind_ok (Ok value) next given both = (value, refl, both)
bind_ok (Err error) next given both = absurd (cc both)

-- what each step keeps holds of all
pub walk_keeps : {A B E : Type 0} (step : ℕ → List B → A → Result B E) (Q : List B → Type 0)
    → ((place : ℕ) (done : List B) (item : A) (one : B) → Q done → step place done item ≡ Ok one → Q (done ++ one ∷ []))
    → (place : ℕ) (done : List B) (items : List A) (all : List B) → Q done → walk_after step place done items ≡ Ok all → Q all
walk_keeps step Q keeps place done [] all holds gives = rw (← same_value done all gives) holds
walk_keeps step Q keeps place done (item ∷ rest) all holds gives =
    let (one, first, more) = bind_ok (step place done item) (λ one. walk_after step (place + 1) (done ++ one ∷ []) rest) all gives in
    walk_keeps step Q keeps (place + 1) (done ++ one ∷ []) rest all (keeps place done item one holds first) more

-- what a test lets through
pub test_ok : {A E : Type 0} (test : Bool) (value given : A) (error : E) → (if test then Ok value else Err error) ≡ Ok given → (test ≡ true) × (value ≡ given)
test_ok true value given error gives = (refl, same_value value given gives)
test_ok false value given error gives = absurd (cc gives)

text_ok : (utf8 short : Bool) (value given : Value) (long bad : ImportError) → (if utf8 then (if short then Ok value else Err long) else Err bad) ≡ Ok given
    → (utf8 ≡ true) × (short ≡ true) × (value ≡ given)
text_ok true true value given long bad gives = (refl, refl, same_value value given gives)
text_ok true false value given long bad gives = absurd (cc gives)
text_ok false short value given long bad gives = absurd (cc gives)

value_lawful : (one : Kind) (row place : ℕ) (field : List ℕ) (value : Value) → value_in one row place field ≡ Ok value → IsLawful value
value_lawful kind.Number row place field value gives = rw (← (test_ok (is_number field) _ value _ gives).1) tt
value_lawful kind.Text row place field value gives =
    let (utf8, short, same) = text_ok (is_utf8 field) (nat_le (length field) max_text) (text field) value _ _ gives in
    rw (← same) (record { short = leb-true (length field) max_text short; utf8 = IsUtf8-from_is_utf8 field utf8 })

walk_lawful : (row place : ℕ) (items : List (Kind × List ℕ)) (values : Row) → walk (value_of row) place items ≡ Ok values → AllByRecursion IsLawful values
walk_lawful row place [] values gives = rw (← same_value [] values gives) tt
walk_lawful row place (item ∷ items) values gives =
    let (first, one, rest) = bind_ok (value_of row place item) (λ first. bind (walk (value_of row) (place + 1) items) (λ more. Ok (first ∷ more))) values gives in
    let (more, others, same) = bind_ok (walk (value_of row) (place + 1) items) (λ more. Ok (first ∷ more)) values rest in
    rw (← same_value (first ∷ more) values same) (value_lawful item.0 row place item.1 first one, walk_lawful row (place + 1) items more others)

row_lawful : (table : TableDef) (row : ℕ) (fields : Record) (values : Row) → row_of table row fields ≡ Ok values → AllByRecursion IsLawful values
row_lawful table row fields values gives = elim (cases_Bool (has_count table fields)) [
  | inl has ↦ walk_lawful row 1 (zip (map (λ column. column.kind) table.columns) fields) values (rw has at gives)
  | inr lacks ↦ let none = rw lacks at gives in absurd (cc none)
]

-- keys that have to differ do
abbrev pub KeysDiffer : Option ℕ → List Row → Type 0
KeysDiffer None rows = Unit {0}
KeysDiffer (Some place) rows = IsDistinct nat_eq (keys_at place rows)

abbrev pub AreLawful : TableDef → List Row → Type 0
AreLawful table rows = AllByRecursion (AllByRecursion IsLawful) rows × KeysDiffer (key_place table) rows

key_more : (place : Option ℕ) (done : List Row) (values : Row) → KeysDiffer place done → repeats_at place [] done values ≡ false → KeysDiffer place (done ++ values ∷ [])
key_more None done values differ fresh = tt
key_more (Some place) done values differ fresh =
    rw (map-append (λ row. number_at place row) done (values ∷ [])) (IsDistinct-push nat_eq_equiv (keys_at place done) (number_at place values) differ fresh)

else_ok : {A E : Type 0} (test : Bool) (error : E) (other : Result A E) (given : A) → (if test then Err error else other) ≡ Ok given → (test ≡ false) × (other ≡ Ok given)
else_ok true error other given gives = absurd (cc gives)
else_ok false error other given gives = (refl, gives)

row_more : (table : TableDef) (limit row : ℕ) (done : List Row) (fields : Record) (one : Row) → AreLawful table done → row_after table limit [] row done fields ≡ Ok one → AreLawful table (done ++ one ∷ [])
row_more table limit row done fields one lawful gives =
    let (values, first, last) = bind_ok (if nat_lt limit row then Err refusal.TooManyRows else row_of table row fields)
    (λ values. if is_repeated table [] done values then Err (refusal.RepeatedKey row) else Ok values) one gives in
    let (within, given) = else_ok (nat_lt limit row) refusal.TooManyRows (row_of table row fields) values first in
    let (fresh, same) = else_ok (is_repeated table [] done values) (refusal.RepeatedKey row) (Ok values) one last in
    rw (← same_value values one same)
    (all_push (AllByRecursion IsLawful) done values lawful.0 (row_lawful table row fields values given), key_more (key_place table) done values lawful.1 fresh)

none_differ : (place : Option ℕ) → KeysDiffer place []
unfolding IsDistinct
none_differ None = tt
none_differ (Some place) = tt

-- the rows of a text are lawful
pub imported_lawful : (table : TableDef) (limit : ℕ) (bytes : List ℕ) (rows : List Row) → imported table limit [] bytes ≡ Ok rows → AreLawful table rows
imported_lawful table limit bytes rows gives =
    walk_keeps (row_after table limit []) (AreLawful table) (row_more table limit) 1 [] (without_header table.header (records_in table.separator bytes)) rows (tt, none_differ (key_place table)) gives
