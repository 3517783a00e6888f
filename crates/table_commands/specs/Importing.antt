-- What `import` answers, for an outside that does not fail.
use Rattle.std.specs.Prelude.{◌≡◌, ℕ, List, [], ◌++◌, codes, decimal, map, Option, Some, None, unwrap_or, Result, Ok, Err, IsSome}
use Rattle.definitions_blocks.specs.Columns.{max_rows}
use Rattle.definitions_outcomes.specs.Outcomes.{Outcomes, Gives, Then}
use Rattle.stream_core.specs.Files.{Files}
use Rattle.catalog_core.specs.declared.schemas.TableDef.{TableDef}
use Rattle.table_core.specs.Tables.{Stored}
use Rattle.table_import.specs.Imports.{Row, imported}
use Rattle.table_import.specs.TableData.{HoldRows}
use Rattle.table_import.specs.declared.errors.ImportError.{ImportError}
use Rattle.table_import.specs.declared.errors.ImportError.TheVariants as error
use Rattle.table_import.specs.declared.tables.ColumnValues.{ColumnValues}
use Rattle.database_core.specs.Saving.{row_count}
use Rattle.table_commands.specs.Refusals.{Refusal, bad_import, limited}
use Rattle.table_commands.specs.declared.databases.Found.{Found}
use Rattle.table_commands.specs.Databases.{definition_of, TableStep}
use Rattle.table_commands.specs.Saving.{Data, AreStoredAs, Ready, Answer, There, SavedAnswer}

-- how many bytes the text has at most
abbrev pub max_import : ℕ
max_import = 1073741824

abbrev pub import_too_long : Refusal
import_too_long = bad_import (codes "too long")

-- what is said of a refused text: rows and fields count from 1. Nothing is said of want of memory, since no text gives it.
abbrev pub field_words : ℕ → ℕ → List ℕ
field_words row field = codes "row " ++ decimal row ++ codes " field " ++ decimal field ++ codes ": "

abbrev pub import_text : ImportError → Option (List ℕ)
import_text error.TooManyRows = Some (codes "too many rows")
import_text (error.FieldCount row found) = Some (codes "row " ++ decimal row ++ codes ": " ++ decimal found ++ codes " fields")
import_text (error.BadNumber row field) = Some (field_words row field ++ codes "bad number")
import_text (error.BadText row field) = Some (field_words row field ++ codes "bad text")
import_text (error.TextTooLong row field) = Some (field_words row field ++ codes "text too long")
import_text (error.RepeatedKey row) = Some (codes "row " ++ decimal row ++ codes ": repeated key")
import_text error.Memory = None

abbrev pub bad_rows : ImportError → Refusal
bad_rows given = bad_import (unwrap_or (import_text given) [])

-- the rows of a text for a table
abbrev pub with_line : Result (List Row) ImportError → Result (List Row) Refusal
with_line (Ok rows) = Ok rows
with_line (Err given) = Err (bad_rows given)

abbrev pub rows_in : TableDef → List ℕ → Result (List Row) Refusal
rows_in table text = with_line (imported table max_rows [] text)

-- the columns of rows, each stored as the schema says
abbrev pub data_of : ColumnValues → Data
data_of column = record { values = column.values; texts = column.dictionary }

abbrev pub AreImported : TableDef → List Row → List Stored → Type 0
AreImported table rows columns = (values : List ColumnValues) × HoldRows table rows values × AreStoredAs table.columns (map data_of values) columns

-- `imported TABLE ROWS rows`
abbrev pub imported_line : TableDef → ℕ → List ℕ
imported_line table rows = codes "imported " ++ table.name ++ codes " " ++ decimal rows ++ codes " rows\n"

abbrev pub IsImport : TableDef → List Row → Ready → Type 0
IsImport table rows ready =
    (ready.table ≡ table) × AreImported table rows ready.columns × (ready.line ≡ imported_line table (row_count ready.columns))

-- what is saved of a text: it is not too long, and has rows for the table
abbrev pub ImportOf : List ℕ → Found → Outcomes Ready Refusal
ImportOf text found =
    Then (Gives (limited max_import import_too_long text)) (λ bytes.
    Then (Gives (rows_in (definition_of found) bytes)) (λ rows. There (IsImport (definition_of found) rows)))

abbrev pub ReadyImport : Files → List ℕ → List ℕ → Outcomes Ready Refusal
ReadyImport files name text = Then (TableStep files name) (ImportOf text)

-- the answer to `import`
abbrev pub ImportReply : Files → List ℕ → List ℕ → Outcomes Answer Refusal
ImportReply files name text = Then (ReadyImport files name text) (SavedAnswer files)

-- Laws.

-- something is said of each refusal of a text
abbrev pub ImportRefusalsAreSaid : Type 0
ImportRefusalsAreSaid = (table : TableDef) (text : List ℕ) (given : ImportError) → imported table max_rows [] text ≡ Err given → IsSome (import_text given)
