-- When the files of a database hold all that is needed.
use Rattle.std.specs.Prelude.{◌≡◌, ℕ, ◌≤◌, List, length, Option, Some, None, Ok, IsTrue, IfSome}
use Rattle.std.specs.List.{AllByRecursion, Contains}
use Rattle.stream_core.specs.Files.{Files}
use Rattle.stream_core.specs.Names.{now_file_name, column_file_name, dictionary_file_name}
use Rattle.catalog_core.specs.Columns.{table_at, column_at, IsNeeds}
use Rattle.catalog_core.specs.Dictionaries.{IsDictionaryFile}
use Rattle.catalog_core.specs.LawfulSchemas.{IsSchema}
use Rattle.catalog_core.specs.Texts.{Text}
use Rattle.catalog_core.specs.declared.columns.ColumnId.{ColumnId}
use Rattle.catalog_core.specs.declared.columns.Needs.{Needs}
use Rattle.catalog_core.specs.declared.schemas.ColumnDef.{ColumnDef}
use Rattle.catalog_core.specs.declared.schemas.TableDef.{TableDef}
use Rattle.catalog_core.specs.declared.schemas.Schema.{Schema}
use Rattle.table_core.specs.Tables.{Stored, TableState, rows_of, stored_at, are_codes}
use Rattle.table_core.specs.Held.{AreTablesOf, KeysDiffer}
use Rattle.database_core.specs.NowFiles.{Now, now_in}
use Rattle.database_core.specs.Opening.{HoldsColumn, Opened, max_data_file}

-- a file holds these bytes, not too many
pub record IsDataFile (files : Files) (file : List ℕ) (bytes : List ℕ) : Type 0 where
  pub there : files file ≡ Some bytes
  pub short : length bytes ≤ max_data_file

-- the now file of a table says this
pub record StandsAt (files : Files) (table : TableDef) (now : Now) : Type 0 where
  pub bytes : List ℕ
  pub there : files (now_file_name table.name) ≡ Some bytes
  pub says : now_in bytes ≡ Some now

-- a column's texts are those of its dictionary file, if there is one
abbrev pub TextsStand : Files → List ℕ → Option (List Text) → Type 0
TextsStand files file None = Unit {0}
TextsStand files file (Some texts) = (bytes : List ℕ) × IsDataFile files file bytes × IsDictionaryFile texts bytes

-- a stored column is that of its files, in the slot that the table's now file names: as many values as rows, and only codes
pub record ColumnStands (files : Files) (table : TableDef) (column : ColumnDef) (stored : Stored) : Type 0 where
  pub now : Now
  pub at : StandsAt files table now
  pub bytes : List ℕ
  pub file : IsDataFile files (column_file_name table.name now.slot column.name) bytes
  pub holds : HoldsColumn bytes stored.column
  pub whole : length stored.column.values ≡ now.rows
  pub texts : TextsStand files (dictionary_file_name table.name now.slot column.name) stored.texts
  pub codes : IsTrue (are_codes stored.texts stored.column.values)

-- what is held of a needed table's row count, and of a needed column
abbrev pub RowsStand : Files → Schema → List TableState → ℕ → Type 0
RowsStand files schema tables table =
    IfSome (table_at schema table) (λ definition. (now : Now) × StandsAt files definition now × (rows_of tables table ≡ Some now.rows))

abbrev pub HeldStands : Files → Schema → List TableState → ColumnId → Type 0
HeldStands files schema tables id =
    IfSome (table_at schema id.table) (λ definition. IfSome (column_at schema id) (λ column.
    (stored : Stored) × (stored_at tables id ≡ Some stored) × ColumnStands files definition column stored))

-- The tables hold what the files hold of the needed tables and columns, and nothing else. Keys that have to differ do.
pub record Stands (files : Files) (schema : Schema) (needs : Needs) (tables : List TableState) : Type 0 where
  pub of : AreTablesOf schema tables
  pub rows : AllByRecursion (RowsStand files schema tables) needs.tables
  pub columns : AllByRecursion (HeldStands files schema tables) needs.columns
  pub keys : AllByRecursion (KeysDiffer schema needs tables) needs.tables
  pub no_rows : (table : ℕ) → (Contains needs.tables table → ⊥) → rows_of tables table ≡ None
  pub no_column : (id : ColumnId) → (Contains needs.columns id → ⊥) → stored_at tables id ≡ None

-- what is opened stands in the files, and what stands in the files is opened
abbrev pub OpenedStands : Type 0
OpenedStands = (files : Files) (schema : Schema) (needs : Needs) (tables : List TableState) → IsSchema schema → IsNeeds schema needs
    → Opened files schema needs (Ok tables) → Stands files schema needs tables

abbrev pub StandingOpens : Type 0
StandingOpens = (files : Files) (schema : Schema) (needs : Needs) (tables : List TableState) → IsSchema schema → IsNeeds schema needs
    → Stands files schema needs tables → Opened files schema needs (Ok tables)
