-- The tables as row counts and columns come, whatever files say.
use Rattle.std.specs.Prelude.{◌≡◌, ℕ, ◌==◌, List, [], ◌∷◌, map, filter, Some, None, is_some, Result, Ok, IfSome}
use Rattle.std.specs.List.{AllByRecursion}
use Rattle.definitions_outcomes.specs.Outcomes.{Outcomes, Each}
use Rattle.catalog_core.specs.Columns.{column_at, columns_of_table}
use Rattle.catalog_core.specs.declared.columns.ColumnId.{ColumnId}
use Rattle.catalog_core.specs.declared.columns.Needs.{Needs}
use Rattle.catalog_core.specs.declared.schemas.Schema.{Schema}
use Rattle.table_core.specs.Tables.{Stored, TableState, started, placed, rows_of, stored_at}
use Rattle.table_core.specs.Held.{KeysDiffer, is_text, outline_of, outline_in}
use Rattle.database_core.specs.declared.errors.OpenError.{OpenError}

-- some column comes, of which this holds
pub record Puts (holds : ColumnId → Stored → Type 0) (tables : List TableState) (id : ColumnId) (end : Result (List TableState) OpenError) : Type 0 where
  pub stored : Stored
  pub fits : holds id stored
  pub done : end ≡ Ok (placed tables id stored)

-- a table: some row count comes, of which this holds, then its needed columns in order; its keys differ, if they have to
pub record Fills (counts : ℕ → ℕ → Type 0) (holds : ColumnId → Stored → Type 0) (schema : Schema) (needs : Needs) (tables : List TableState) (table : ℕ) (end : Result (List TableState) OpenError) : Type 0 where
  pub rows : ℕ
  pub counted : counts table rows
  pub filled : List TableState
  pub columns : Each (Puts holds) (started tables table rows) (columns_of_table needs table) (Ok filled)
  pub keys : KeysDiffer schema needs filled table
  pub done : end ≡ Ok filled

-- any row count; a column with texts just where its kind has such
abbrev pub AnyCount : ℕ → ℕ → Type 0
AnyCount table rows = Unit {0}

abbrev pub FitsKind : Schema → ColumnId → Stored → Type 0
FitsKind schema id stored = IfSome (column_at schema id) (λ column. is_some stored.texts ≡ is_text column.kind)

-- the tables are filled in some way
abbrev pub FillsSome : Schema → Needs → List TableState → ℕ → Outcomes (List TableState) OpenError
FillsSome schema needs = Fills AnyCount (FitsKind schema) schema needs

-- the column, if it is of this table
abbrev pub if_of : ℕ → ColumnId → List ColumnId
if_of table id = filter (λ one. one.table == table) (id ∷ [])

-- The row count of a table is known, and none of these columns is there of those that are of it.
pub record IsFilling (schema : Schema) (ids : List ColumnId) (table rows : ℕ) (tables : List TableState) : Type 0 where
  pub outlines : map outline_of tables ≡ map outline_in schema.tables
  pub known : rows_of tables table ≡ Some rows
  pub free : AllByRecursion (λ id. stored_at tables id ≡ None) (filter (λ one. one.table == table) ids)

-- Nothing is there yet of these tables.
pub record IsEmpty (schema : Schema) (needs : Needs) (tables : List TableState) (items : List ℕ) : Type 0 where
  pub outlines : map outline_of tables ≡ map outline_in schema.tables
  pub unset : AllByRecursion (λ table. rows_of tables table ≡ None) items
  pub free : AllByRecursion (λ table. AllByRecursion (λ id. stored_at tables id ≡ None) (columns_of_table needs table)) items
