-- What changes of the tables, and what does not: what is sound stays so, and tables stay those of their schema.
use Rattle.std.proofs.Common.{◌≡◌, ◌≢◌, ◌∙◌, ◌⊎◌, inl, inr, ℕ, ◌<◌, List, [], ◌∷◌, Option, Some, None, map, length, refl, sym, ap, ap₂, subst}
use Rattle.std.specs.Prelude.{option_map, slice_get, is_some, IfSome}
use Rattle.std.specs.List.{AllByRecursion}
use Rattle.std.proofs.lemmas.Bool.{cases_eq}
use Rattle.std.proofs.lemmas.List.{length-map, length-set}
use Rattle.std.proofs.lemmas.Option.{MatchOption-at_some}
use Rattle.definitions_outcomes.specs.Computed.{and_then}
use Rattle.catalog_core.specs.Columns.{column_at}
use Rattle.catalog_core.specs.declared.columns.ColumnId.{ColumnId}
use Rattle.catalog_core.specs.declared.schemas.ColumnDef.{ColumnDef}
use Rattle.catalog_core.specs.declared.schemas.TableDef.{TableDef}
use Rattle.catalog_core.specs.declared.schemas.Schema.{Schema}
use Rattle.table_core.specs.Tables.{Stored, TableState, state_of, nothing_yet, with_rows, with_slot, map_at, started, rows_of, slot_at, stored_at, IsSoundSlot, IsSoundTable, AreSound, StartsOnly, PutsOnly}
use Rattle.table_core.specs.Held.{is_text, outline_of, outline_in, AreTablesOf}
use Rattle.table_core.proofs.PlaceLemmas.{some_of_within, slice_get-map_at, slice_get-map_at_other, slice_get-set, slice_get-set_other, map_at_keeps, map-map_at, all_at, all_map_at, all_set, all_weaker, all_map, and_then_some}

-- ---- numbers of columns

same_id : (id other : ColumnId) → id.table ≡ other.table → id.column ≡ other.column → id ≡ other
same_id id other tables columns =
    let make : ℕ → ℕ → ColumnId = λ table column. record { table = table; column = column } in ap₂ make tables columns

pub cases_id : (id other : ColumnId) → (id ≡ other) ⊎ (id ≢ other)
cases_id id other =
    elim (cases_eq id.table other.table) [
      | inl tables ↦ elim (cases_eq id.column other.column) [
        | inl columns ↦ inl (same_id id other tables columns)
        | inr apart ↦ inr (λ same. apart (ap (λ (one : ColumnId). one.column) same))
      ]
      | inr apart ↦ inr (λ same. apart (ap (λ (one : ColumnId). one.table) same))
    ]

-- ---- a table that is started

pub StartsOnly-started : (tables : List TableState) (table rows : ℕ) → table < length tables → StartsOnly table rows tables (started tables table rows)
StartsOnly-started tables table rows within =
    let (one, there) = some_of_within tables table within in
    let rows_in : Option TableState → Option ℕ = λ found. and_then found (λ one. one.rows) in
    record {
      known = ap rows_in (slice_get-map_at (with_rows rows) tables table ∙ ap (option_map (with_rows rows)) there);
      other_rows = λ other apart. ap rows_in (slice_get-map_at_other (with_rows rows) tables table other apart);
      keys = λ other. map_at_keeps (with_rows rows) (λ one. one.key) (λ one. refl) tables table other;
      slots = λ id. map_at_keeps (with_rows rows) (λ one. slice_get one.columns id.column) (λ one. refl) tables table id.table;
    }

pub AreTablesOf-started : (schema : Schema) (tables : List TableState) (table rows : ℕ) → AreTablesOf schema tables → AreTablesOf schema (started tables table rows)
AreTablesOf-started schema tables table rows of = record {
  outlines = map-map_at (with_rows rows) outline_of (λ one. refl) tables table ∙ of.outlines;
  texts = λ id column stored is there.
      let same : slot_at (started tables table rows) id ≡ slot_at tables id = map_at_keeps (with_rows rows) (λ one. slice_get one.columns id.column) (λ one. refl) tables table id.table in
      of.texts id column stored is (sym (ap (λ slot. and_then slot (λ one. one)) same) ∙ there);
}

-- without a row count no column is there
sound_later : (rows : ℕ) (slot : Option Stored) → IsSoundSlot None slot → IsSoundSlot (Some rows) slot
sound_later rows None is = tt
sound_later rows (Some stored) is = absurd (cc is.0)

pub AreSound-started : (tables : List TableState) (table rows : ℕ) → AreSound tables → rows_of tables table ≡ None → AreSound (started tables table rows)
AreSound-started tables table rows sound unset =
    all_map_at IsSoundTable (with_rows rows) tables table sound (λ one there is.
    let none : one.rows ≡ None = sym (ap (λ (found : Option TableState). and_then found (λ one. one.rows)) there) ∙ unset in
    all_weaker (IsSoundSlot None) (IsSoundSlot (Some rows)) (sound_later rows) one.columns (subst (λ known. AllByRecursion (IsSoundSlot known) one.columns) none is))

-- ---- a column that is put at its place, or taken from it

pub PutsOnly-slot : (tables : List TableState) (id : ColumnId) (before slot : Option Stored) → slot_at tables id ≡ Some before → PutsOnly id slot tables (map_at (with_slot id.column slot) tables id.table)
PutsOnly-slot tables id before slot there =
    let change = with_slot id.column slot in
    let (one, found, at) = and_then_some (slice_get tables id.table) (λ one. slice_get one.columns id.column) before there in
    record {
      there =
          ap (λ (found : Option TableState). and_then found (λ one. slice_get one.columns id.column)) (slice_get-map_at change tables id.table ∙ ap (option_map change) found)
          ∙ slice_get-set one.columns id.column before slot at;
      others = λ other apart.
          elim (cases_eq other.table id.table) [
            | inl same ↦ map_at_keeps change (λ one. slice_get one.columns other.column)
                (λ one. slice_get-set_other one.columns id.column other.column slot (λ columns. apart (same_id other id same columns))) tables id.table other.table
            | inr differs ↦ ap (λ (found : Option TableState). and_then found (λ one. slice_get one.columns other.column)) (slice_get-map_at_other change tables id.table other.table differs)
          ];
      keys = λ table. map_at_keeps change (λ one. one.key) (λ one. refl) tables id.table table;
      rows = λ table. map_at_keeps change (λ one. one.rows) (λ one. refl) tables id.table table;
    }

outlines_stay : (id : ColumnId) (slot : Option Stored) (tables : List TableState) → map outline_of (map_at (with_slot id.column slot) tables id.table) ≡ map outline_of tables
outlines_stay id slot tables =
    map-map_at (with_slot id.column slot) outline_of (λ one. ap (λ columns. record { key = one.key; columns = columns }) (length-set one.columns id.column slot)) tables id.table

-- the columns that stay have dictionaries as before, and the new one has one just if it is a text column
pub AreTablesOf-slot : (schema : Schema) (tables : List TableState) (id : ColumnId) (before slot : Option Stored) → slot_at tables id ≡ Some before
    → ((column : ColumnDef) (stored : Stored) → column_at schema id ≡ Some column → slot ≡ Some stored → is_some stored.texts ≡ is_text column.kind)
    → AreTablesOf schema tables → AreTablesOf schema (map_at (with_slot id.column slot) tables id.table)
AreTablesOf-slot schema tables id before slot there fits of =
    let only = PutsOnly-slot tables id before slot there in
    record {
      outlines = outlines_stay id slot tables ∙ of.outlines;
      texts = λ other column stored is found.
          elim (cases_id other id) [
            | inl same ↦
                let here : slot ≡ Some stored = sym (ap (λ (slot : Option (Option Stored)). and_then slot (λ one. one)) only.there) ∙ subst (λ one. stored_at (map_at (with_slot id.column slot) tables id.table) one ≡ Some stored) same found in
                fits column stored (subst (λ one. column_at schema one ≡ Some column) same is) here
            | inr apart ↦ of.texts other column stored is (sym (ap (λ (slot : Option (Option Stored)). and_then slot (λ one. one)) (only.others other apart)) ∙ found)
          ];
    }

-- the dictionary fits the column's kind
pub fits_there : (schema : Schema) (id : ColumnId) (stored : Stored) → IfSome (column_at schema id) (λ definition. is_some stored.texts ≡ is_text definition.kind)
    → (column : ColumnDef) (given : Stored) → column_at schema id ≡ Some column → Some stored ≡ Some given → is_some given.texts ≡ is_text column.kind
fits_there schema id stored fits column given known same =
    let here : is_some stored.texts ≡ is_text column.kind = MatchOption-at_some (Unit {0}) (λ definition. is_some stored.texts ≡ is_text definition.kind) column known fits in
    let one : stored ≡ given = cc in
    subst (λ stored. is_some stored.texts ≡ is_text column.kind) one here

pub AreSound-slot : (tables : List TableState) (id : ColumnId) (slot : Option Stored) → AreSound tables → IsSoundSlot (rows_of tables id.table) slot → AreSound (map_at (with_slot id.column slot) tables id.table)
AreSound-slot tables id slot sound good =
    all_map_at IsSoundTable (with_slot id.column slot) tables id.table sound (λ one there is.
    let rows : rows_of tables id.table ≡ one.rows = ap (λ (found : Option TableState). and_then found (λ one. one.rows)) there in
    all_set (IsSoundSlot one.rows) one.columns id.column slot is (subst (λ known. IsSoundSlot known slot) rows good))

-- ---- what is there is sound

pub sound_slot : (tables : List TableState) (id : ColumnId) (slot : Option Stored) → AreSound tables → slot_at tables id ≡ Some slot → IsSoundSlot (rows_of tables id.table) slot
sound_slot tables id slot sound there =
    let (one, found, at) = and_then_some (slice_get tables id.table) (λ one. slice_get one.columns id.column) slot there in
    let rows : rows_of tables id.table ≡ one.rows = ap (λ (found : Option TableState). and_then found (λ one. one.rows)) found in
    subst (λ known. IsSoundSlot known slot) (sym rows) (all_at (IsSoundSlot one.rows) one.columns id.column slot (all_at IsSoundTable tables id.table one sound found) at)

pub sound_stored : (tables : List TableState) (id : ColumnId) (stored : Stored) → AreSound tables → stored_at tables id ≡ Some stored → IsSoundSlot (rows_of tables id.table) (Some stored)
sound_stored tables id stored sound there =
    let (slot, at, is) = and_then_some (slot_at tables id) (λ one. one) stored there in
    sound_slot tables id (Some stored) sound (at ∙ ap Some is)

-- ---- nothing is there yet

pub AreSound-nothing_yet : (schema : Schema) → AreSound (nothing_yet schema)
AreSound-nothing_yet schema = all_map IsSoundTable state_of (λ definition. all_map (IsSoundSlot None) (λ column. None) (λ column. tt) definition.columns) schema.tables

abbrev NoneIs : Option Stored → Type 0
NoneIs slot = slot ≡ None

none_there : (schema : Schema) (id : ColumnId) (stored : Stored) → stored_at (nothing_yet schema) id ≡ Some stored → ⊥
none_there schema id stored there =
    let tables = nothing_yet schema in
    let (slot, at, is) = and_then_some (slot_at tables id) (λ one. one) stored there in
    let (one, found, within) = and_then_some (slice_get tables id.table) (λ one. slice_get one.columns id.column) slot at in
    let P : TableState → Type 0 = λ table. AllByRecursion NoneIs table.columns in
    let all = all_map P state_of (λ definition. all_map NoneIs (λ column. None) (λ column. refl) definition.columns) schema.tables in
    let none : slot ≡ None = all_at NoneIs one.columns id.column slot (all_at P tables id.table one all found) within in
    cc (none, is)

outlines_yet : (definitions : List TableDef) → map outline_of (map state_of definitions) ≡ map outline_in definitions
outlines_yet [] = refl
outlines_yet (definition ∷ definitions) =
    ap₂ (λ one rest. record { key = definition.key; columns = one } ∷ rest) (length-map definition.columns (λ column. None)) (outlines_yet definitions)

pub AreTablesOf-nothing_yet : (schema : Schema) → AreTablesOf schema (nothing_yet schema)
AreTablesOf-nothing_yet schema = record {
  outlines = outlines_yet schema.tables;
  texts = λ id column stored is there. absurd (none_there schema id stored there);
}
