-- What each command answers, for an outside that does not fail.
use Rattle.std.specs.Prelude.{◌≡◌, ℕ, ◌^◌, ◌==◌, nat_lt, List, [], length, sum, codes, Option, Some, None, Result, Ok, Err, ok_or, if◌then◌else◌}
use Rattle.definitions_blocks.specs.Formats.{Format}
use Rattle.definitions_columns.specs.ColumnFiles.{Version, IsFileOf}
use Rattle.definitions_columns.specs.FileFaults.{HasFileFault}
use Rattle.definitions_operators.specs.Sums.{kept_values, sum_over}
use Rattle.definitions_outcomes.specs.Computed.{bind}
use Rattle.definitions_outcomes.specs.Outcomes.{Outcomes, Gives, OneOr, OneOrFault, Then}
use Rattle.stream_core.specs.Files.{Files}
use Rattle.stream_core.specs.Names.{now_file_name, column_file_name}
use Rattle.database_core.specs.NowFiles.{Now, now_in}
use Rattle.database_core.specs.Opening.{max_data_file}
use Rattle.engine_tool.specs.Answers.{answer_text}
use Rattle.command_words.specs.Commands as command
use Rattle.command_words.specs.Commands.{Command}
use Rattle.command_words.specs.Words.{help_text}
use Rattle.query_commands.specs.Explaining.{SaysNoQuery, ExplainReply}
use Rattle.table_commands.specs.Checking.{CheckReply}
use Rattle.table_commands.specs.Databases.{TableStep}
use Rattle.table_commands.specs.declared.databases.Found.{Found}
use Rattle.table_commands.specs.Exporting.{ExportReply}
use Rattle.table_commands.specs.Importing.{ReadyImport, ImportReply}
use Rattle.table_commands.specs.Reformatting.{ReformatReply}
use Rattle.table_commands.specs.Saving.{Ready, Answer, unchanged}
use Rattle.engine_tool.specs.Queries.{Condition, Query, Spells, max_query}
use Rattle.table_commands.specs.Refusals.{Refusal, status_of_kind, bad_query, bad_file, sum_too_wide, usage_line, limited, file_of, bytes_of, fault_text}

-- the query of a text: the text is not too long, and spells one
abbrev pub QueryOf : List ℕ → Outcomes Query Refusal
QueryOf text = Then (Gives (limited max_query bad_query text)) (λ query. OneOr (Spells query) bad_query)

-- where the table's rows stand
abbrev pub now_of : Files → List ℕ → Result Now Refusal
now_of files table = bind (file_of files (now_file_name table)) (λ bytes. ok_or (now_in bytes) (bad_file (now_file_name table) (codes "bad now")))

-- the bytes of a column file
abbrev pub column_bytes : Files → List ℕ → Result (List ℕ) Refusal
column_bytes = bytes_of max_data_file

-- the bytes are the file of this column in some version and format
abbrev pub HoldsColumn : List ℕ → List ℕ → Type 0
HoldsColumn bytes values = (version : Version) × (format : Format) × IsFileOf version format values bytes

-- the column whose file the bytes are, or their first fault
abbrev pub ValuesOf : List ℕ → List ℕ → Outcomes (List ℕ) Refusal
ValuesOf name bytes = OneOrFault (HoldsColumn bytes) (HasFileFault bytes) (λ fault. bad_file name (fault_text fault))

-- one value for each row
abbrev pub for_rows : List ℕ → ℕ → List ℕ → Result (List ℕ) Refusal
for_rows name rows values = if length values == rows then Ok values else Err (bad_file name (codes "length"))

-- a column of the table, read from its file
abbrev pub RowsOf : List ℕ → ℕ → List ℕ → Outcomes (List ℕ) Refusal
RowsOf name rows bytes = Then (ValuesOf name bytes) (λ values. Gives (for_rows name rows values))

abbrev pub ColumnOf : Files → List ℕ → Now → List ℕ → Outcomes (List ℕ) Refusal
ColumnOf files table now column =
    Then (Gives (column_bytes files (column_file_name table now.slot column))) (RowsOf (column_file_name table now.slot column) now.rows)

-- the columns of a query: the one that is summed, and the one that is tested, where there is a condition
pub record Loaded : Type 0 where
  pub summed : List ℕ
  pub tested : Option (List ℕ)

abbrev pub TestedOf : Files → List ℕ → Now → List ℕ → Option Condition → Outcomes Loaded Refusal
TestedOf files table now summed None = Gives (Ok (record { summed = summed; tested = None }))
TestedOf files table now summed (Some condition) =
    Then (ColumnOf files table now condition.tested) (λ tested. Gives (Ok (record { summed = summed; tested = Some tested })))

abbrev pub LoadedOf : Files → Query → Outcomes Loaded Refusal
LoadedOf files query =
    Then (Gives (now_of files query.table)) (λ now.
    Then (ColumnOf files query.table now query.summed) (λ summed. TestedOf files query.table now summed query.condition))

-- the values that are summed: those of all rows, or of the rows that meet the condition
abbrev pub kept_in : Option Condition → Loaded → List ℕ
kept_in None loaded = loaded.summed
kept_in (Some condition) loaded = kept_of_tested loaded.summed loaded.tested condition.low condition.high where
  kept_of_tested : List ℕ → Option (List ℕ) → ℕ → ℕ → List ℕ
  kept_of_tested summed None low high = []
  kept_of_tested summed (Some tested) low high = kept_values summed tested low high

-- the answer over the values that are summed
abbrev pub answer_over : List ℕ → Result (List ℕ) Refusal
answer_over kept = if nat_lt (sum kept) (2 ^ 64) then Ok (answer_text (sum_over kept)) else Err sum_too_wide

-- the answer to a query
abbrev pub AnswerOf : Files → Query → Outcomes (List ℕ) Refusal
AnswerOf files query = Then (LoadedOf files query) (λ loaded. Gives (answer_over (kept_in query.condition loaded)))

-- the answer to `query`
abbrev pub QueryReply : Files → List ℕ → Outcomes (List ℕ) Refusal
QueryReply files text = Then (QueryOf text) (AnswerOf files)

-- the answer of a step of a command that saves nothing
abbrev pub Unchanged : Files → Outcomes (List ℕ) Refusal → Outcomes Answer Refusal
Unchanged files step end = (given : Result (List ℕ) Refusal) × step given × (end ≡ unchanged files given)

-- what a command answers; one that is not built has no answer
abbrev pub Means : Command → Files → List ℕ → Outcomes Answer Refusal
Means (command.import table) files text = ImportReply files table text
Means (command.export table) files text = Unchanged files (ExportReply files table)
Means (command.reformat table) files text = ReformatReply files table
Means command.check files text = Unchanged files (CheckReply files)
Means command.explain files text = Unchanged files (ExplainReply files text)
Means command.help files text = Unchanged files (Gives (Ok help_text))
Means (command.query options) files text = Unchanged files (QueryReply files text)
Means (command.demo options) files text = λ end. ⊥

-- what any words answer: the exit status, what is written, and the files afterwards
pub record Reply : Type 0 where
  pub status : ℕ
  pub text : List ℕ
  pub files : Files

abbrev pub reply_of : Files → Result Answer Refusal → Reply
reply_of files (Ok answer) = record { status = 0; text = answer.text; files = answer.files }
reply_of files (Err refusal) = record { status = status_of_kind refusal.kind; text = refusal.line; files = files }

abbrev pub Replies : Option Command → Files → List ℕ → Reply → Type 0
Replies None files text reply = reply ≡ record { status = 2; text = usage_line; files = files }
Replies (Some command) files text reply = (end : Result Answer Refusal) × Means command files text end × (reply ≡ reply_of files end)

-- the command refuses the text whatever the files hold, before it loads one
abbrev pub RefusesText : Option Command → List ℕ → Type 0
RefusesText None text = ⊥
RefusesText (Some (command.import table)) text = ⊥
RefusesText (Some (command.export table)) text = ⊥
RefusesText (Some (command.reformat table)) text = ⊥
RefusesText (Some command.check) text = ⊥
RefusesText (Some command.explain) text = SaysNoQuery text
RefusesText (Some command.help) text = ⊥
RefusesText (Some (command.query options)) text = (asked : Query) → QueryOf text (Ok asked) → ⊥
RefusesText (Some (command.demo options)) text = ⊥

-- the command refuses the files whatever the input holds, before it reads it
abbrev pub RefusesFiles : Option Command → Files → Type 0
RefusesFiles None files = ⊥
RefusesFiles (Some (command.import table)) files = (found : Found) → TableStep files table (Ok found) → ⊥
RefusesFiles (Some (command.export table)) files = (text : List ℕ) → ExportReply files table (Ok text) → ⊥
RefusesFiles (Some (command.reformat table)) files = (answer : Answer) → ReformatReply files table (Ok answer) → ⊥
RefusesFiles (Some command.check) files = (text : List ℕ) → CheckReply files (Ok text) → ⊥
RefusesFiles (Some command.explain) files = ⊥
RefusesFiles (Some command.help) files = ⊥
RefusesFiles (Some (command.query options)) files = ⊥
RefusesFiles (Some (command.demo options)) files = ⊥

-- the command refuses the text for these files once both are read, and loads nothing behind the text
abbrev pub RefusesBoth : Option Command → Files → List ℕ → Type 0
RefusesBoth None files text = ⊥
RefusesBoth (Some (command.import table)) files text = (ready : Ready) → ReadyImport files table text (Ok ready) → ⊥
RefusesBoth (Some (command.export table)) files text = ⊥
RefusesBoth (Some (command.reformat table)) files text = ⊥
RefusesBoth (Some command.check) files text = ⊥
RefusesBoth (Some command.explain) files text = ⊥
RefusesBoth (Some command.help) files text = ⊥
RefusesBoth (Some (command.query options)) files text = ⊥
RefusesBoth (Some (command.demo options)) files text = ⊥

-- a command has one reply at most
abbrev pub OneReply : Type 0
OneReply = (command : Option Command) (files : Files) (text : List ℕ) (reply other : Reply) → Replies command files text reply → Replies command files text other → reply ≡ other
