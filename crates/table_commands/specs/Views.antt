-- What values of the code stand for, and what holds of them.
use Rattle.std.specs.Prelude.{◌≡◌, ℕ, ◌<◌, List, ◌++◌, codes, decimal, length, map, slice_get, Some, is_some, IsSome}
use Rattle.catalog_core.specs.LawfulSchemas.{IsSchema}
use Rattle.catalog_core.specs.declared.schemas.ColumnDef.{ColumnDef}
use Rattle.catalog_core.specs.declared.schemas.TableDef.{TableDef}
use Rattle.table_core.specs.Held.{is_text}
use Rattle.table_core.specs.Tables.{Stored, TableState, stored_at}
use Rattle.table_core.specs.Views.{stored_of}
use Rattle.answer_text.specs.HeldColumns.{columns_at}
use Rattle.database_core.specs.Saving.{AreColumnsOf, row_count}
use Rattle.table_commands.specs.Databases.{definition_of}
use Rattle.table_commands.specs.Saving as saving
use Rattle.table_commands.specs.declared.databases.Found.{Found}
use Rattle.table_commands.specs.declared.saving.Ready.{Ready}

-- a table that was found is one of a lawful schema
pub record IsFound (found : Found) : Type 0 where
  pub lawful : IsSchema found.schema
  pub within : found.table < length found.schema.tables

-- a table's columns: one for each that is defined, of its kind, and all with the same row count
abbrev pub FitTable : TableDef → List Stored → Type 0
FitTable table columns = AreColumnsOf (row_count columns) table.columns columns

-- a table's columns are all there, each with a dictionary just if it has texts
pub record AreHeld (definitions : List ColumnDef) (table : ℕ) (tables : List TableState) : Type 0 where
  pub count : length (columns_at tables table) ≡ length definitions
  pub there : (place : ℕ) → place < length definitions → IsSome (stored_at tables (record { table = table; column = place }))
  pub texts : (place : ℕ) (definition : ColumnDef) (stored : Stored) → slice_get definitions place ≡ Some definition
      → stored_at tables (record { table = table; column = place }) ≡ Some stored → is_some stored.texts ≡ is_text definition.kind

-- what is ready to be saved
abbrev pub ready_view : Ready → saving.Ready
ready_view ready = record { table = definition_of ready.found; columns = map stored_of ready.columns; line = ready.line }

pub record IsReady (ready : Ready) : Type 0 where
  pub found : IsFound ready.found
  pub fits : FitTable (definition_of ready.found) (map stored_of ready.columns)

-- `WORD TABLE ROWS rows`, where the word has the blank behind it
abbrev pub saved_line : List ℕ → List ℕ → ℕ → List ℕ
saved_line word table rows = word ++ table ++ codes " " ++ decimal rows ++ codes " rows\n"
