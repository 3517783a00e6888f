-- Lines of tables and columns, one after the other.
use Rattle.std.proofs.Common.{◌≡◌, ◌∙◌, ◌<◌, ◌≤◌, ◌+◌, ℕ, zero, suc, List, [], ◌∷◌, ◌++◌, Option, Some, None, refl, sym, ap, length, drop, take, get_or, flat_map, option_map, unwrap_or, slice_get, arith, drop_of_length-le}
use Rattle.std.specs.List.{zip}
use Rattle.std.proofs.lemmas.List.{drop_more, append_assoc, append-nil, length-map, take_more}
use Rattle.std.proofs.lemmas.Option.{slice_get-map, slice_get-get_or}
use Rattle.std.proofs.lemmas.Slice.Zip.{length-zip, get_or-zip}
use Rattle.definitions_outcomes.specs.Computed.{and_then}
use Rattle.catalog_core.specs.declared.schemas.TableDef.{TableDef}
use Rattle.catalog_core.specs.declared.schemas.Schema.{Schema}
use Rattle.table_core.specs.Tables.{Stored, TableState, stored_at, column_of}
use Rattle.table_core.specs.Held.{outline_of, outline_in, AreTablesOf}
use Rattle.answer_text.specs.Checks.{table_lines}
use Rattle.answer_text.specs.Exports.{columns_there}
use Rattle.answer_text.specs.HeldColumns.{columns_at, lines_at}

-- the lines of two lists side by side, from a place on
abbrev pub lines_from : {A B : Type 0} → (A → B → List ℕ) → List A → List B → ℕ → List ℕ
lines_from line firsts seconds place = flat_map (λ pair. line pair.0 pair.1) (drop place (zip firsts seconds))

module _ {A B : Type 0} (line : A → B → List ℕ) (firsts : List A) (seconds : List B) (place : ℕ) (same : length seconds ≡ length firsts) where
  long : length (zip firsts seconds) ≡ length firsts
  long = omega (arith, length-zip firsts seconds, same)

  -- what was written so far, the next line, and the lines behind it
  pub one_line_more : (before so_far : List ℕ) (whole : List ℕ) (first : A) (second : B) → place < length firsts
      → so_far ++ lines_from line firsts seconds place ≡ before ++ whole
      → (so_far ++ line (get_or firsts place first) (get_or seconds place second)) ++ lines_from line firsts seconds (place + 1) ≡ before ++ whole
  one_line_more before so_far whole first second within is =
      let here : drop place (zip firsts seconds) ≡ (get_or firsts place first, get_or seconds place second) ∷ drop (place + 1) (zip firsts seconds) =
      drop_more (zip firsts seconds) place (first, second) (rw long within)
      ∙ ap (λ pair. pair ∷ drop (place + 1) (zip firsts seconds)) (get_or-zip firsts seconds place (first, second) within (rw same within)) in
      append_assoc so_far (line (get_or firsts place first) (get_or seconds place second)) (lines_from line firsts seconds (place + 1))
      ∙ ap (λ pairs. so_far ++ flat_map (λ pair. line pair.0 pair.1) pairs) (sym here) ∙ is

  pub all_lines : (before so_far : List ℕ) (whole : List ℕ) → length firsts ≤ place → so_far ++ lines_from line firsts seconds place ≡ before ++ whole → so_far ≡ before ++ whole
  all_lines before so_far whole past is =
      let none : drop place (zip firsts seconds) ≡ [] = drop_of_length-le (zip firsts seconds) {i = place} (rw long past) in
      sym (append-nil so_far) ∙ ap (λ pairs. so_far ++ flat_map (λ pair. line pair.0 pair.1) pairs) (sym none) ∙ is

-- what is there of a column, and of a table's columns

held_at : {X : Type 0} (slots : List (Option X)) (place : ℕ) → and_then (slice_get slots place) (λ slot. slot) ≡ get_or slots place None
held_at [] place = refl
held_at (slot ∷ slots) zero = refl
held_at (slot ∷ slots) (suc place) = held_at slots place

held_in : (found : Option TableState) (place : ℕ)
    → and_then (and_then found (λ one. slice_get one.columns place)) (λ slot. slot) ≡ get_or (unwrap_or (option_map (λ (one : TableState). one.columns) found) []) place None
held_in None place = refl
held_in (Some one) place = held_at one.columns place

pub slot_held : (tables : List TableState) (table place : ℕ) → stored_at tables (record { table = table; column = place }) ≡ get_or (columns_at tables table) place None
slot_held tables table place = held_in (slice_get tables table) place

pub column_held : (tables : List TableState) (table place : ℕ)
    → column_of tables (record { table = table; column = place }) ≡ option_map (λ (stored : Stored). stored.column) (get_or (columns_at tables table) place None)
column_held tables table place = ap (option_map (λ (stored : Stored). stored.column)) (slot_held tables table place)

-- the columns that are there, one after the other

pub there-append : (slots : List (Option Stored)) (slot : Option Stored) → columns_there (slots ++ slot ∷ []) ≡ columns_there slots ++ columns_there (slot ∷ [])
there-append [] slot = refl
there-append (None ∷ slots) slot = there-append slots slot
there-append (Some stored ∷ slots) slot = ap (λ rest. stored ∷ rest) (there-append slots slot)

-- one column more, if it is there
pub there-more : (tables : List TableState) (table place : ℕ) → place < length (columns_at tables table)
    → columns_there (take (place + 1) (columns_at tables table))
    ≡ columns_there (take place (columns_at tables table)) ++ columns_there (stored_at tables (record { table = table; column = place }) ∷ [])
there-more tables table place within =
    let slots = columns_at tables table in
    ap columns_there (take_more slots place None within) ∙ there-append (take place slots) (get_or slots place None)
    ∙ ap (λ (slot : Option Stored). columns_there (take place slots) ++ columns_there (slot ∷ [])) (sym (slot_held tables table place))

-- tables of a schema have its number of tables, and each its number of columns

pub same_count : (schema : Schema) (tables : List TableState) → AreTablesOf schema tables → length tables ≡ length schema.tables
same_count schema tables of = sym (length-map tables outline_of) ∙ ap length of.outlines ∙ length-map schema.tables outline_in

counts_of : (state : Option TableState) (definition : TableDef) → option_map outline_of state ≡ Some (outline_in definition)
    → length (unwrap_or (option_map (λ (one : TableState). one.columns) state) []) ≡ length definition.columns
counts_of None definition same = cc
counts_of (Some one) definition same = ap (λ found. (unwrap_or found (outline_in definition)).columns) same

pub same_columns : (schema : Schema) (tables : List TableState) (table : ℕ) (definition : TableDef) → AreTablesOf schema tables → slice_get schema.tables table ≡ Some definition
    → length (columns_at tables table) ≡ length definition.columns
same_columns schema tables table definition of is =
    counts_of (slice_get tables table) definition
    (sym (slice_get-map outline_of tables table) ∙ ap (λ outlines. slice_get outlines table) of.outlines ∙ slice_get-map outline_in schema.tables table ∙ ap (option_map outline_in) is)

-- the lines of a table that is there

pub lines_there : (definition : TableDef) (tables : List TableState) (table : ℕ) (other : TableState) → table < length tables
    → lines_at definition tables table ≡ table_lines definition (get_or tables table other)
lines_there definition tables table other within =
    ap (λ found. unwrap_or (option_map (table_lines definition) found) []) (slice_get-get_or tables table other within)
