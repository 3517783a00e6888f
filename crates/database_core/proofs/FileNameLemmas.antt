-- The names of a table's files, and which of them differ.
use Rattle.std.proofs.Common.{◌≡◌, ◌≢◌, ℕ, zero, suc, true, List, [], ◌∷◌, ◌++◌, ◌⊎◌, inl, inr, Some, refl, sym, ap, ◌∙◌, subst, append_assoc, arith}
use Rattle.std.proofs.lemmas.Bool.{and_parts, cases_Bool, eqb-true}
use Rattle.std.proofs.lemmas.List.{append_cancel_left}
use Rattle.std.specs.Prelude.{get_or, ◌&&◌, ◌==◌, not, nat_le, length, flat_map, slice_get, cond}
use Rattle.std.specs.List.{AllByRecursion, list_all}
use Rattle.stream_core.specs.Names.{IsName, is_name_byte, begins_with_letter, is_keyword, max_name, now_file_name, column_file_name, dictionary_file_name}
use Rattle.catalog_core.specs.declared.schemas.Kind.{Kind}
use Rattle.catalog_core.specs.declared.schemas.Kind.TheVariants as kind
use Rattle.catalog_core.specs.declared.schemas.ColumnDef.{ColumnDef}
use Rattle.table_core.specs.Held.{is_text}
use Rattle.database_core.specs.NowFiles.{Now}
use Rattle.database_core.specs.TableFiles.{other_slot, dictionary_names, names_of_column}
use Rattle.database_core.proofs.ListLemmas.{Among}

-- a name of a file in a slot: `TABLE.SLOT.` and more
abbrev pub slot_file : List ℕ → ℕ → List ℕ → List ℕ
slot_file table slot rest = table ++ 46 ∷ slot ∷ 46 ∷ rest

pub column_in : (table : List ℕ) (slot : ℕ) (column : List ℕ) → column_file_name table slot column ≡ slot_file table slot (column ++ 46 ∷ 99 ∷ 111 ∷ 108 ∷ [])
column_in table slot column = simp append_assoc refl

pub dictionary_in : (table : List ℕ) (slot : ℕ) (column : List ℕ) → dictionary_file_name table slot column ≡ slot_file table slot (column ++ 46 ∷ 100 ∷ 105 ∷ 99 ∷ [])
dictionary_in table slot column = simp append_assoc refl

-- A name has no dot.

no_dot : (text : List ℕ) → list_all is_name_byte text ≡ true → AllByRecursion (λ byte. byte ≢ 46) text
no_dot [] all = tt
no_dot (byte ∷ bytes) all =
    let p = and_parts (is_name_byte byte) (list_all is_name_byte bytes) all in
    ((λ same. cc (sym (ap is_name_byte same) ∙ p.0)), no_dot bytes p.1)

name_dot : (text : List ℕ) → IsName text → AllByRecursion (λ byte. byte ≢ 46) text
name_dot text is =
    let all = list_all is_name_byte text in
    let p = and_parts (begins_with_letter text && all && nat_le (length text) max_name) (not (is_keyword text)) is in
    let q = and_parts (begins_with_letter text && all) (nat_le (length text) max_name) p.0 in
    no_dot text (and_parts (begins_with_letter text) all q.0).1

before_dot : (a b rest more : List ℕ) → AllByRecursion (λ byte. byte ≢ 46) a → AllByRecursion (λ byte. byte ≢ 46) b → a ++ 46 ∷ rest ≡ b ++ 46 ∷ more → (a ≡ b) × (rest ≡ more)
before_dot [] [] rest more none nor same = (refl, cc same)
before_dot [] (y ∷ ys) rest more none nor same =
    let first : 46 ≡ y = cc same in absurd (nor.0 (sym first))
before_dot (x ∷ xs) [] rest more none nor same =
    let first : x ≡ 46 = cc same in absurd (none.0 first)
before_dot (x ∷ xs) (y ∷ ys) rest more none nor same =
    let first : x ≡ y = cc same in
    let after : xs ++ 46 ∷ rest ≡ ys ++ 46 ∷ more = cc same in
    let p = before_dot xs ys rest more none.1 nor.1 after in
    (cc (first, p.0), p.1)

-- the text before the first dot is the table
pub same_table : (table other rest more : List ℕ) → IsName table → IsName other → table ++ 46 ∷ rest ≡ other ++ 46 ∷ more → (table ≡ other) × (rest ≡ more)
same_table table other rest more is be same = before_dot table other rest more (name_dot table is) (name_dot other be) same

-- a now file stands in no slot
pub now_no_slot : (slot : ℕ) (rest : List ℕ) → 110 ∷ 111 ∷ 119 ∷ [] ≡ slot ∷ 46 ∷ rest → ⊥
now_no_slot slot rest same =
    let second : ◌≡◌ {A = ℕ} 111 46 = ap (λ (bytes : List ℕ). get_or bytes 1 0) same in absurd (omega (arith, second))

pub now_apart : (table : List ℕ) (slot : ℕ) (rest : List ℕ) → now_file_name table ≡ slot_file table slot rest → ⊥
now_apart table slot rest same =
    let after : 110 ∷ 111 ∷ 119 ∷ [] ≡ slot ∷ 46 ∷ rest = cc (append_cancel_left table (46 ∷ 110 ∷ 111 ∷ 119 ∷ []) (46 ∷ slot ∷ 46 ∷ rest) same) in
    now_no_slot slot rest after

-- the slot to write is not the one that holds the rows
other_apart : (slot : ℕ) → slot ≡ cond (slot == 97) 98 97 → ⊥
other_apart slot same = elim (cases_Bool (slot == 97)) [
  | inl first ↦
      let there : slot ≡ 98 = rw first at same in
      absurd (omega (arith, eqb-true slot 97 first, there))
  | inr other ↦
      let there : slot ≡ 97 = rw other at same in
      cc (sym other ∙ ap (λ (n : ℕ). n == 97) there)
]

pub slots_apart : (now : Now) → now.slot ≡ other_slot (Some now) → ⊥
slots_apart now same = other_apart now.slot same

-- The names of a column's files stand in the slot.

dictionary_in_slot : (table : List ℕ) (slot : ℕ) (column : List ℕ) (kind : Kind) (name : List ℕ) → Among name (dictionary_names table slot column kind) → (rest : List ℕ) × (name ≡ slot_file table slot rest)
dictionary_in_slot table slot column kind.Number name among = absurd among
dictionary_in_slot table slot column kind.Text name (inl same) = (column ++ 46 ∷ 100 ∷ 105 ∷ 99 ∷ [], sym same ∙ dictionary_in table slot column)
dictionary_in_slot table slot column kind.Text name (inr among) = absurd among

column_in_slot : (table : List ℕ) (slot : ℕ) (column : ColumnDef) (name : List ℕ) → Among name (names_of_column table slot column) → (rest : List ℕ) × (name ≡ slot_file table slot rest)
column_in_slot table slot column name (inl same) = (column.name ++ 46 ∷ 99 ∷ 111 ∷ 108 ∷ [], sym same ∙ column_in table slot column.name)
column_in_slot table slot column name (inr among) = dictionary_in_slot table slot column.name column.kind name among

among_either : {A : Type 0} (x : A) (first rest : List A) → Among x (first ++ rest) → Among x first ⊎ Among x rest
among_either x [] rest among = inr among
among_either x (item ∷ first) rest (inl same) = inl (inl same)
among_either x (item ∷ first) rest (inr among) = elim (among_either x first rest among) [
  | inl here ↦ inl (inr here)
  | inr later ↦ inr later
]

pub data_in_slot : (table : List ℕ) (slot : ℕ) (columns : List ColumnDef) (name : List ℕ) → Among name (flat_map (names_of_column table slot) columns) → (rest : List ℕ) × (name ≡ slot_file table slot rest)
data_in_slot table slot [] name among = absurd among
data_in_slot table slot (column ∷ columns) name among = elim (among_either name (names_of_column table slot column) (flat_map (names_of_column table slot) columns) among) [
  | inl here ↦ column_in_slot table slot column name here
  | inr later ↦ data_in_slot table slot columns name later
]

-- A column's files are among the table's.

among_left : {A : Type 0} (x : A) (first rest : List A) → Among x first → Among x (first ++ rest)
among_left x [] rest among = absurd among
among_left x (item ∷ first) rest (inl same) = inl same
among_left x (item ∷ first) rest (inr among) = inr (among_left x first rest among)

among_right : {A : Type 0} (x : A) (first rest : List A) → Among x rest → Among x (first ++ rest)
among_right x [] rest among = among
among_right x (item ∷ first) rest among = inr (among_right x first rest among)

pub column_among : (table : List ℕ) (slot : ℕ) (columns : List ColumnDef) (place : ℕ) (column : ColumnDef) (name : List ℕ) → slice_get columns place ≡ Some column → Among name (names_of_column table slot column)
    → Among name (flat_map (names_of_column table slot) columns)
column_among table slot [] place column name there among = absurd (cc there)
column_among table slot (first ∷ columns) zero column name there among =
    let same : first ≡ column = cc there in
    among_left name (names_of_column table slot first) (flat_map (names_of_column table slot) columns) (subst (λ (c : ColumnDef). Among name (names_of_column table slot c)) (sym same) among)
column_among table slot (first ∷ columns) (suc place) column name there among =
    among_right name (names_of_column table slot first) (flat_map (names_of_column table slot) columns) (column_among table slot columns place column name there among)

pub dictionary_among : (table : List ℕ) (slot : ℕ) (column : List ℕ) (kind : Kind) → true ≡ is_text kind → Among (dictionary_file_name table slot column) (dictionary_names table slot column kind)
dictionary_among table slot column kind.Number is = absurd (cc is)
dictionary_among table slot column kind.Text is = inl refl
