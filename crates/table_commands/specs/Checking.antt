-- What `check` answers, for an outside that does not fail.
use Rattle.std.specs.Prelude.{ℕ, List, Ok}
use Rattle.definitions_outcomes.specs.Outcomes.{Outcomes, Gives, Then}
use Rattle.stream_core.specs.Files.{Files}
use Rattle.catalog_core.specs.Columns.{needs_of_all}
use Rattle.catalog_core.specs.declared.schemas.Schema.{Schema}
use Rattle.answer_text.specs.Checks.{check_text}
use Rattle.table_commands.specs.Refusals.{Refusal}
use Rattle.table_commands.specs.Databases.{SchemaStep, OpenedIn}

-- the lines of all tables with all their columns
abbrev pub CheckOf : Files → Schema → Outcomes (List ℕ) Refusal
CheckOf files schema = Then (OpenedIn files schema (needs_of_all schema)) (λ tables. Gives (Ok (check_text schema tables)))

-- the answer to `check`
abbrev pub CheckReply : Files → Outcomes (List ℕ) Refusal
CheckReply files = Then (SchemaStep files) (CheckOf files)
