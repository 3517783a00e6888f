-- What the tables of the code stand for, when one of them is read or written.
use Rattle.std.proofs.Common.{◌≡◌, ◌∙◌, ℕ, zero, suc, ◌<◌, ◌≤◌, List, [], ◌∷◌, Option, Some, None, Bor, map, length, replicate, get_or, refl, sym, ap, subst, arith}
use Rattle.std.specs.Prelude.{option_map, slice_get, slice_set, is_some, IsSome, IfSome}
use Rattle.std.proofs.lemmas.List.{length-map, map-set}
use Rattle.std.proofs.lemmas.Option.{slice_get-map, slice_get_read, slice_get_past, slice_get_within}
use Rattle.definitions_outcomes.specs.Computed.{and_then}
use Rattle.catalog_core.specs.declared.columns.ColumnId.{ColumnId}
use Rattle.catalog_core.specs.declared.schemas.ColumnDef.{ColumnDef}
use Rattle.catalog_core.specs.declared.schemas.TableDef.{TableDef}
use Rattle.catalog_core.specs.declared.schemas.Schema.{Schema}
use Rattle.table_core.specs.declared.tables.StoredColumn.{StoredColumn}
use Rattle.table_core.specs.declared.tables.Table.{Table}
use Rattle.table_core.specs.Tables.{Stored, TableState, state_of, with_rows, with_slot, map_at, started, emptied, rows_of, slot_at, stored_at, IsSoundSlot, AreSound, PutsOnly}
use Rattle.table_core.specs.Views.{stored_of, state_of_table, states_of}
use Rattle.table_core.specs.Held.{AreTablesOf}
use Rattle.table_core.proofs.PlaceLemmas.{map_at_same, map-set as map-written, and_then_some}
use Rattle.table_core.proofs.HeldLemmas.{sound_stored, PutsOnly-slot, AreTablesOf-slot}

-- ---- reading

there : (inside : List Table) (place : ℕ) (one : Table) → slice_get inside place ≡ Some one → slice_get (states_of inside) place ≡ Some (state_of_table one)
there inside place one found = slice_get-map state_of_table inside place ∙ ap (option_map state_of_table) found

past : (inside : List Table) (place : ℕ) → length inside ≤ place → slice_get (states_of inside) place ≡ None
past inside place beyond = slice_get_past (states_of inside) place (omega (arith, beyond, length-map inside state_of_table))

stored_of_slot : (slot : Option (Option StoredColumn)) → and_then (option_map (option_map stored_of) slot) (λ one. one) ≡ option_map stored_of (and_then slot (λ one. one))
stored_of_slot None = refl
stored_of_slot (Some slot) = refl

pub stored-states : (inside : List Table) (id : ColumnId) (one : Table) → slice_get inside id.table ≡ Some one
    → stored_at (states_of inside) id ≡ option_map stored_of (and_then (slice_get one.columns.items id.column) (λ slot. slot))
stored-states inside id one found =
    let slot_in : Option TableState → Option Stored = λ table. and_then (and_then table (λ one. slice_get one.columns id.column)) (λ slot. slot) in
    ap slot_in (there inside id.table one found)
    ∙ ap (λ (slot : Option (Option Stored)). and_then slot (λ one. one)) (slice_get-map (option_map stored_of) one.columns.items id.column)
    ∙ stored_of_slot (slice_get one.columns.items id.column)

pub stored_past : (inside : List Table) (id : ColumnId) → length inside ≤ id.table → stored_at (states_of inside) id ≡ None
stored_past inside id beyond =
    let slot_in : Option TableState → Option Stored = λ table. and_then (and_then table (λ one. slice_get one.columns id.column)) (λ slot. slot) in
    ap slot_in (past inside id.table beyond)

-- a stored column that was found is sound
pub sound_found : (tables : List TableState) (id : ColumnId) (found : Option (Bor StoredColumn)) → AreSound tables → option_map (λ stored. stored_of stored.now) found ≡ stored_at tables id
    → IfSome found (λ stored. IsSoundSlot (rows_of tables id.table) (Some (stored_of stored.now)))
sound_found tables id None sound same = tt
sound_found tables id (Some stored) sound same = sound_stored tables id (stored_of stored.now) sound (sym same)

-- ---- writing

pub started_after : (inside : List Table) (tables : List TableState) (table rows : ℕ) (one : Table) → states_of inside ≡ tables → table < length tables → one ≡ get_or inside table one
    → states_of (slice_set inside table (record one { rows = Some rows })) ≡ started tables table rows
started_after inside tables table rows one view within is =
    let inner : table < length inside = omega (arith, within, length-map inside state_of_table, ap length view) in
    map-written state_of_table (with_rows rows) inside table one (record one { rows = Some rows }) (slice_get_read inside (length inside) table one refl inner is) refl
    ∙ ap (λ before. started before table rows) view

-- a table of which one column was written
pub state_after : (one : Table) (items : List (Option StoredColumn)) (place : ℕ) (slot : Option StoredColumn) → items ≡ slice_set one.columns.items place slot
    → record { key = one.key; rows = one.rows; columns = map (option_map stored_of) items } ≡ with_slot place (option_map stored_of slot) (state_of_table one)
state_after one items place slot is =
    let state : List (Option Stored) → TableState = λ columns. record { key = one.key; rows = one.rows; columns = columns } in
    ap state (ap (map (option_map stored_of)) is ∙ map-set (option_map stored_of) one.columns.items place slot)

pub slot_after : (inside : List Table) (tables : List TableState) (id : ColumnId) (one after : Table) (slot : Option Stored) → states_of inside ≡ tables → slice_get inside id.table ≡ Some one
    → state_of_table after ≡ with_slot id.column slot (state_of_table one) → states_of (slice_set inside id.table after) ≡ map_at (with_slot id.column slot) tables id.table
slot_after inside tables id one after slot view found is =
    map-written state_of_table (with_slot id.column slot) inside id.table one after found is ∙ ap (λ before. map_at (with_slot id.column slot) before id.table) view

-- a table in which a place is known is there
pub within_of : (inside : List Table) (tables : List TableState) (id : ColumnId) (slot : Option Stored) → states_of inside ≡ tables → slot_at tables id ≡ Some slot → id.table < length inside
within_of inside tables id slot view at =
    let (one, found, place) = and_then_some (slice_get tables id.table) (λ one. slice_get one.columns id.column) slot at in
    omega (arith, slice_get_within tables id.table one found, length-map inside state_of_table, ap length view)

-- ---- taking

-- nothing is left of a place where nothing was
emptied_slots : (slots : List (Option Stored)) (place : ℕ) → and_then (slice_get slots place) (λ slot. slot) ≡ None → slice_set slots place None ≡ slots
emptied_slots [] place none = refl
emptied_slots (slot ∷ slots) zero none = ap (λ one. one ∷ slots) (sym none)
emptied_slots (slot ∷ slots) (suc place) none = ap (λ rest. slot ∷ rest) (emptied_slots slots place none)

pub emptied_same : (tables : List TableState) (id : ColumnId) → stored_at tables id ≡ None → emptied tables id ≡ tables
emptied_same tables id none =
    map_at_same (with_slot id.column None) tables id.table (λ one found.
    let empty : and_then (slice_get one.columns id.column) (λ slot. slot) ≡ None =
    sym (ap (λ (table : Option TableState). and_then (and_then table (λ one. slice_get one.columns id.column)) (λ slot. slot)) found) ∙ none in
    let state : List (Option Stored) → TableState = λ columns. record { key = one.key; rows = one.rows; columns = columns } in
    ap state (emptied_slots one.columns id.column empty))

-- what was taken, and what that changes
pub record Takes (id : ColumnId) (given : Option Stored) (before after : List TableState) : Type 0 where
  pub only : IsSome given → PutsOnly id None before after
  pub of : (schema : Schema) → AreTablesOf schema before → AreTablesOf schema after
  pub same : given ≡ None → after ≡ before

pub Takes-emptied : (tables : List TableState) (id : ColumnId) (given : Option Stored) → stored_at tables id ≡ given → Takes id given tables (emptied tables id)
Takes-emptied tables id None is = record {
  only = λ some. absurd (cc some);
  of = λ schema of. subst (AreTablesOf schema) (sym (emptied_same tables id is)) of;
  same = λ none. emptied_same tables id is;
}
Takes-emptied tables id (Some stored) is =
    let (slot, at, there) = and_then_some (slot_at tables id) (λ slot. slot) stored is in
    record {
      only = λ some. PutsOnly-slot tables id slot None at;
      of = λ schema of. AreTablesOf-slot schema tables id slot None at (λ column given known none. absurd (cc none)) of;
      same = λ none. absurd (cc none);
    }

pub if_some : {A : Type 0} (found : Option A) (P : Type 0) → (IsSome found → P) → IfSome found (λ one. P)
if_some None P holds = tt
if_some (Some one) P holds = holds refl

pub is_some-map : {A B : Type 0} (change : A → B) (found : Option A) → is_some (option_map change found) ≡ is_some found
is_some-map change None = refl
is_some-map change (Some one) = refl

pub copied_stored : (found : Option (Bor StoredColumn)) → option_map (λ stored. stored_of stored.now) found ≡ option_map stored_of (option_map (λ stored. stored.now) found)
copied_stored None = refl
copied_stored (Some stored) = refl

-- columns of which none is there
pub nones : (definitions : List ColumnDef) → map (option_map stored_of) (replicate (length definitions) None) ≡ map (λ column. None) definitions
nones [] = refl
nones (definition ∷ definitions) = ap (λ rest. None ∷ rest) (nones definitions)

pub state_yet : (table : Table) (definition : TableDef) → table.key ≡ definition.key → table.rows ≡ None → table.columns.items ≡ replicate (length definition.columns) None → state_of_table table ≡ state_of definition
state_yet table definition key rows columns =
    let state : Option ℕ → Option ℕ → List (Option Stored) → TableState = λ key rows columns. record { key = key; rows = rows; columns = columns } in
    ap (λ key. state key table.rows (map (option_map stored_of) table.columns.items)) key
    ∙ ap (λ rows. state definition.key rows (map (option_map stored_of) table.columns.items)) rows
    ∙ ap (state definition.key None) (ap (map (option_map stored_of)) columns ∙ nones definition.columns)

-- what is taken is sound

pub sound_taken : (tables : List TableState) (id : ColumnId) (taken : Option StoredColumn) → AreSound tables → option_map stored_of taken ≡ stored_at tables id
    → IfSome taken (λ one. IsSoundSlot (rows_of tables id.table) (Some (stored_of one)))
sound_taken tables id None sound same = tt
sound_taken tables id (Some one) sound same = sound_stored tables id (stored_of one) sound (sym same)
