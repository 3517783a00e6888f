-- What is held of the tables of a schema: rows and columns, as far as they are there.
use Rattle.std.specs.Prelude.{◌≡◌, ◌≢◌, ℕ, zero, suc, Bool, true, nat_lt, List, [], ◌∷◌, map, length, Option, Some, None, option_map, slice_get, IsSome, IsTrue}
use Rattle.std.specs.List.{AllByRecursion, list_all, slice_set}
use Rattle.definitions_outcomes.specs.Computed.{and_then}
use Rattle.column_core.specs.Columns.{Shape}
use Rattle.catalog_core.specs.Texts.{Text}
use Rattle.catalog_core.specs.declared.columns.ColumnId.{ColumnId}
use Rattle.catalog_core.specs.declared.schemas.TableDef.{TableDef}
use Rattle.catalog_core.specs.declared.schemas.Schema.{Schema}

-- a column, and the texts of its dictionary if it is a text column
pub record Stored : Type 0 where
  pub column : Shape
  pub texts : Option (List Text)

-- the place of a table's key, how many rows it has, once that is known, and its columns, as far as they are there
pub record TableState : Type 0 where
  pub key : Option ℕ
  pub rows : Option ℕ
  pub columns : List (Option Stored)

-- nothing is there yet
abbrev pub state_of : TableDef → TableState
state_of table = record { key = table.key; rows = None; columns = map (λ column. None) table.columns }

abbrev pub nothing_yet : Schema → List TableState
nothing_yet schema = map state_of schema.tables

-- the item at a place, changed
abbrev pub map_at : {A : Type 0} → (A → A) → List A → ℕ → List A
map_at change [] place = []
map_at change (item ∷ items) zero = change item ∷ items
map_at change (item ∷ items) (suc place) = item ∷ map_at change items place

-- a table's row count is known now; a column is there now, or no longer
abbrev pub with_rows : ℕ → TableState → TableState
with_rows rows table = record table { rows = Some rows }

abbrev pub with_slot : ℕ → Option Stored → TableState → TableState
with_slot place slot table = record table { columns = slice_set table.columns place slot }

abbrev pub started : List TableState → ℕ → ℕ → List TableState
started tables table rows = map_at (with_rows rows) tables table

abbrev pub placed : List TableState → ColumnId → Stored → List TableState
placed tables id stored = map_at (with_slot id.column (Some stored)) tables id.table

abbrev pub emptied : List TableState → ColumnId → List TableState
emptied tables id = map_at (with_slot id.column None) tables id.table

-- a table's row count, if it is known
abbrev pub rows_of : List TableState → ℕ → Option ℕ
rows_of tables table = and_then (slice_get tables table) (λ one. one.rows)

-- the place of a column, and what is there
abbrev pub slot_at : List TableState → ColumnId → Option (Option Stored)
slot_at tables id = and_then (slice_get tables id.table) (λ one. slice_get one.columns id.column)

abbrev pub stored_at : List TableState → ColumnId → Option Stored
stored_at tables id = and_then (slot_at tables id) (λ slot. slot)

abbrev pub column_of : List TableState → ColumnId → Option Shape
column_of tables id = option_map (λ stored. stored.column) (stored_at tables id)

abbrev pub texts_of : List TableState → ColumnId → Option (List Text)
texts_of tables id = and_then (stored_at tables id) (λ stored. stored.texts)

-- the values of a table's key, if it has one that is there
abbrev pub key_of : List TableState → ℕ → Option ℕ
key_of tables table = and_then (slice_get tables table) (λ one. one.key)

abbrev pub key_values : List TableState → ℕ → Option (List ℕ)
key_values tables table =
    and_then (key_of tables table) (λ key. option_map (λ column. column.values) (column_of tables (record { table = table; column = key })))

-- whether each value is a code of the dictionary, if there is one
abbrev pub are_codes : Option (List Text) → List ℕ → Bool
are_codes None values = true
are_codes (Some texts) values = list_all (λ value. nat_lt value (length texts)) values

-- a column that is there has a value for each row, and only codes of its dictionary
abbrev pub IsSoundSlot : Option ℕ → Option Stored → Type 0
IsSoundSlot rows None = Unit {0}
IsSoundSlot rows (Some stored) = (rows ≡ Some (length stored.column.values)) × IsTrue (are_codes stored.texts stored.column.values)

abbrev pub IsSoundTable : TableState → Type 0
IsSoundTable table = AllByRecursion (IsSoundSlot table.rows) table.columns

abbrev pub AreSound : List TableState → Type 0
AreSound tables = AllByRecursion IsSoundTable tables

-- the table's row count is known, and the place for the column is free
pub record IsAwaited (tables : List TableState) (id : ColumnId) : Type 0 where
  pub started : IsSome (rows_of tables id.table)
  pub free : slot_at tables id ≡ Some None

-- What changes, and what does not.

-- a table's row count is known now
pub record StartsOnly (table rows : ℕ) (before after : List TableState) : Type 0 where
  pub known : rows_of after table ≡ Some rows
  pub other_rows : (other : ℕ) → other ≢ table → rows_of after other ≡ rows_of before other
  pub keys : (other : ℕ) → key_of after other ≡ key_of before other
  pub slots : (id : ColumnId) → slot_at after id ≡ slot_at before id

-- what stands at the place of a column
pub record PutsOnly (id : ColumnId) (slot : Option Stored) (before after : List TableState) : Type 0 where
  pub there : slot_at after id ≡ Some slot
  pub others : (other : ColumnId) → other ≢ id → slot_at after other ≡ slot_at before other
  pub keys : (table : ℕ) → key_of after table ≡ key_of before table
  pub rows : (table : ℕ) → rows_of after table ≡ rows_of before table
