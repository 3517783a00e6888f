-- What `export` answers, for an outside that does not fail.
use Rattle.std.specs.Prelude.{ℕ, List, Ok}
use Rattle.definitions_outcomes.specs.Outcomes.{Outcomes, Gives, Then}
use Rattle.stream_core.specs.Files.{Files}
use Rattle.catalog_core.specs.Columns.{needs_of_table}
use Rattle.table_core.specs.Tables.{TableState}
use Rattle.answer_text.specs.Exports.{export_text}
use Rattle.table_commands.specs.Refusals.{Refusal}
use Rattle.table_commands.specs.declared.databases.Found.{Found}
use Rattle.table_commands.specs.Databases.{TableStep, OpenedIn}

-- a table with all its columns
abbrev pub WholeTable : Files → Found → Outcomes (List TableState) Refusal
WholeTable files found = OpenedIn files found.schema (needs_of_table found.schema found.table)

-- the rows of a table
abbrev pub ExportOf : Files → Found → Outcomes (List ℕ) Refusal
ExportOf files found = Then (WholeTable files found) (λ tables. Gives (Ok (export_text found.schema found.table tables)))

-- the answer to `export`
abbrev pub ExportReply : Files → List ℕ → Outcomes (List ℕ) Refusal
ExportReply files name = Then (TableStep files name) (ExportOf files)
