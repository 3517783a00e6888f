-- What `reformat` answers, for an outside that does not fail.
use Rattle.std.specs.Prelude.{◌≡◌, ℕ, List, ◌++◌, codes, decimal, map}
use Rattle.definitions_outcomes.specs.Outcomes.{Outcomes, Then}
use Rattle.stream_core.specs.Files.{Files}
use Rattle.catalog_core.specs.declared.schemas.TableDef.{TableDef}
use Rattle.table_core.specs.Tables.{Stored, TableState}
use Rattle.answer_text.specs.Exports.{columns_there}
use Rattle.answer_text.specs.HeldColumns.{columns_at}
use Rattle.database_core.specs.Saving.{row_count}
use Rattle.table_commands.specs.Refusals.{Refusal}
use Rattle.table_commands.specs.declared.databases.Found.{Found}
use Rattle.table_commands.specs.Databases.{definition_of, TableStep}
use Rattle.table_commands.specs.Exporting.{WholeTable}
use Rattle.table_commands.specs.Saving.{Data, AreStoredAs, Ready, Answer, There, SavedAnswer}

-- the columns of a table, each stored as the schema says
abbrev pub data_of : Stored → Data
data_of stored = record { values = stored.column.values; texts = stored.texts }

abbrev pub held_in : List TableState → ℕ → List Data
held_in tables table = map data_of (columns_there (columns_at tables table))

-- `reformatted TABLE ROWS rows`
abbrev pub reformatted_line : TableDef → ℕ → List ℕ
reformatted_line table rows = codes "reformatted " ++ table.name ++ codes " " ++ decimal rows ++ codes " rows\n"

abbrev pub IsReformat : Found → List TableState → Ready → Type 0
IsReformat found tables ready =
    (ready.table ≡ definition_of found) × AreStoredAs (definition_of found).columns (held_in tables found.table) ready.columns
    × (ready.line ≡ reformatted_line (definition_of found) (row_count ready.columns))

-- what is saved of a table: the same values and texts
abbrev pub ReformatOf : Files → Found → Outcomes Ready Refusal
ReformatOf files found = Then (WholeTable files found) (λ tables. There (IsReformat found tables))

abbrev pub ReadyReformat : Files → List ℕ → Outcomes Ready Refusal
ReadyReformat files name = Then (TableStep files name) (ReformatOf files)

-- the answer to `reformat`
abbrev pub ReformatReply : Files → List ℕ → Outcomes Answer Refusal
ReformatReply files name = Then (ReadyReformat files name) (SavedAnswer files)
