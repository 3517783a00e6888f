-- What a command that saves a table is about to save, and what it answers, for an outside that does not fail.
use Rattle.std.specs.Prelude.{◌≡◌, ℕ, List, [], ◌∷◌, Option, Result, Ok, Err}
use Rattle.definitions_outcomes.specs.Outcomes.{Outcomes}
use Rattle.stream_core.specs.Files.{Files}
use Rattle.block_core.specs.Formats.{format_of}
use Rattle.block_core.specs.declared.formats.FormatChoice.{FormatChoice}
use Rattle.block_core.specs.declared.formats.FormatChoice.TheVariants.{Fixed, Auto}
use Rattle.column_core.specs.Columns.{Shape}
use Rattle.size_chooser.specs.FileSizes.{IsLeast}
use Rattle.catalog_core.specs.Texts.{Text}
use Rattle.catalog_core.specs.declared.schemas.ColumnDef.{ColumnDef}
use Rattle.catalog_core.specs.declared.schemas.TableDef.{TableDef}
use Rattle.table_core.specs.Tables.{Stored}
use Rattle.database_core.specs.TableFiles.{slot_to_write}
use Rattle.database_core.specs.Saving.{File, AreDataFiles, put, puts, now_file_of, row_count}
use Rattle.table_commands.specs.Refusals.{Refusal}

-- there is such a value: the step refuses nothing
abbrev pub There : {A E : Type 0} → (A → Type 0) → Outcomes A E
There holds (Ok value) = holds value
There holds (Err refusal) = ⊥

-- the values of a column, and the texts that they are codes of if it is a text column
pub record Data : Type 0 where
  pub values : List ℕ
  pub texts : Option (List Text)

-- the column is in the format of the schema; if that is `auto`, in the one of which its file is the shortest
abbrev pub IsInFormat : FormatChoice → Shape → Type 0
IsInFormat (Fixed format) column = column.format ≡ format
IsInFormat Auto column = IsLeast column.values (format_of column.format)

-- the values and texts are stored as the schema says
pub record IsStoredAs (definition : ColumnDef) (source : Data) (stored : Stored) : Type 0 where
  pub values : stored.column.values ≡ source.values
  pub texts : stored.texts ≡ source.texts
  pub format : IsInFormat definition.format stored.column

-- the same of the columns of a table, in order
abbrev pub AreStoredAs : List ColumnDef → List Data → List Stored → Type 0
AreStoredAs [] [] [] = Unit {0}
AreStoredAs [] [] (stored ∷ columns) = ⊥
AreStoredAs [] (source ∷ sources) columns = ⊥
AreStoredAs (definition ∷ definitions) [] columns = ⊥
AreStoredAs (definition ∷ definitions) (source ∷ sources) [] = ⊥
AreStoredAs (definition ∷ definitions) (source ∷ sources) (stored ∷ columns) = IsStoredAs definition source stored × AreStoredAs definitions sources columns

-- what is about to be saved: the columns of a table, and the line that is written then
pub record Ready : Type 0 where
  pub table : TableDef
  pub columns : List Stored
  pub line : List ℕ

-- an answer: what is written, and the files afterwards
pub record Answer : Type 0 where
  pub text : List ℕ
  pub files : Files

-- the answer of a command that saves nothing
abbrev pub unchanged : Files → Result (List ℕ) Refusal → Result Answer Refusal
unchanged files (Ok text) = Ok (record { text = text; files = files })
unchanged files (Err refusal) = Err refusal

-- the files with the table saved: its data files in the slot to write, and then its now file
abbrev pub written : Files → TableDef → List File → ℕ → Files
written files table saved rows = put (puts files saved) (now_file_of table.name (slot_to_write files table.name) rows)

-- the line is written, and the files are those with the table saved
abbrev pub IsSaved : Files → Ready → Answer → Type 0
IsSaved files ready answer =
    (answer.text ≡ ready.line)
    × (saved : List File) × AreDataFiles ready.table.name (slot_to_write files ready.table.name) ready.table.columns ready.columns saved
    × (answer.files ≡ written files ready.table saved (row_count ready.columns))

abbrev pub SavedAnswer : Files → Ready → Outcomes Answer Refusal
SavedAnswer files ready = There (IsSaved files ready)
