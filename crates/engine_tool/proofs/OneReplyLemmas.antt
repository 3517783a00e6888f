-- A command has one reply at most.
use Rattle.std.proofs.Common.{ℕ, List, Option, Some, None, Ok, sym, ap, ◌∙◌}
use Rattle.definitions_columns.specs.FileFaults.{HasFileFault}
use Rattle.definitions_columns.proofs.FaultLaws.{one_fault, no_fault}
use Rattle.definitions_columns.proofs.FileLaws as laws
use Rattle.definitions_outcomes.specs.Outcomes.{Outcomes, Gives, OneOr, Then, HasOneEnd}
use Rattle.definitions_outcomes.proofs.OutcomeLaws.{Gives-one, OneOr-one, OneOrFault-one, Then-one}
use Rattle.stream_core.specs.Files.{Files}
use Rattle.stream_core.specs.Names.{column_file_name}
use Rattle.database_core.specs.NowFiles.{Now}
use Rattle.table_commands.specs.Checking.{CheckReply}
use Rattle.table_commands.specs.Exporting.{ExportReply}
use Rattle.table_commands.specs.Saving.{unchanged}
use Rattle.table_commands.proofs.OneReplyLemmas.{CheckReply-one, ExportReply-one, ReformatReply-one}
use Rattle.table_commands.proofs.OneImportLemmas.{ImportReply-one}
use Rattle.query_commands.specs.Explaining.{ExplainReply}
use Rattle.query_commands.proofs.OneReplyLemmas.{ExplainReply-one}
use Rattle.command_words.specs.Commands as command
use Rattle.command_words.specs.Commands.{Command}
use Rattle.command_words.specs.Words.{help_text}
use Rattle.engine_tool.specs.Queries.{Condition, Query, Spells, max_query}
use Rattle.table_commands.specs.Refusals.{Refusal, bad_query, bad_file, limited, fault_text}
use Rattle.engine_tool.specs.Replies.{Unchanged, Means, OneReply, QueryReply, HoldsColumn, ValuesOf, RowsOf, ColumnOf, TestedOf, LoadedOf, QueryOf, AnswerOf, now_of, column_bytes, for_rows, kept_in, answer_over, reply_of}
use Rattle.engine_tool.proofs.OneQueryLemmas.{Spells-one}

QueryOf-one : (text : List ℕ) → HasOneEnd (QueryOf text)
QueryOf-one text =
    Then-one (Gives (limited max_query bad_query text)) (λ bytes. OneOr (Spells bytes) bad_query) (Gives-one (limited max_query bad_query text))
    (λ bytes. OneOr-one (Spells bytes) bad_query (Spells-one bytes))

-- a file is one column's, or has one first fault
ValuesOf-one : (name bytes : List ℕ) → HasOneEnd (ValuesOf name bytes)
ValuesOf-one name bytes =
    OneOrFault-one (HoldsColumn bytes) (HasFileFault bytes) (λ fault. bad_file name (fault_text fault))
    (λ values others p q. (laws.one_column p.0 q.0 p.1 q.1 values others bytes p.2 q.2).2)
    (one_fault bytes)
    (λ values fault p has. no_fault p.0 p.1 values bytes fault p.2 has)

RowsOf-one : (name : List ℕ) (rows : ℕ) (bytes : List ℕ) → HasOneEnd (RowsOf name rows bytes)
RowsOf-one name rows bytes = Then-one (ValuesOf name bytes) (λ values. Gives (for_rows name rows values)) (ValuesOf-one name bytes) (λ values. Gives-one (for_rows name rows values))

ColumnOf-one : (files : Files) (table : List ℕ) (now : Now) (column : List ℕ) → HasOneEnd (ColumnOf files table now column)
ColumnOf-one files table now column =
    let name = column_file_name table now.slot column in
    Then-one (Gives (column_bytes files name)) (RowsOf name now.rows) (Gives-one (column_bytes files name)) (RowsOf-one name now.rows)

TestedOf-one : (files : Files) (table : List ℕ) (now : Now) (summed : List ℕ) (condition : Option Condition) → HasOneEnd (TestedOf files table now summed condition)
TestedOf-one files table now summed None = Gives-one (Ok (record { summed = summed; tested = None }))
TestedOf-one files table now summed (Some condition) =
    Then-one (ColumnOf files table now condition.tested) (λ tested. Gives (Ok (record { summed = summed; tested = Some tested }))) (ColumnOf-one files table now condition.tested)
    (λ tested. Gives-one (Ok (record { summed = summed; tested = Some tested })))

LoadedOf-one : (files : Files) (query : Query) → HasOneEnd (LoadedOf files query)
LoadedOf-one files query =
    Then-one (Gives (now_of files query.table)) (λ now. Then (ColumnOf files query.table now query.summed) (λ summed. TestedOf files query.table now summed query.condition))
    (Gives-one (now_of files query.table))
    (λ now. Then-one (ColumnOf files query.table now query.summed) (λ summed. TestedOf files query.table now summed query.condition)
    (ColumnOf-one files query.table now query.summed) (λ summed. TestedOf-one files query.table now summed query.condition))

AnswerOf-one : (files : Files) (query : Query) → HasOneEnd (AnswerOf files query)
AnswerOf-one files query =
    Then-one (LoadedOf files query) (λ loaded. Gives (answer_over (kept_in query.condition loaded))) (LoadedOf-one files query) (λ loaded. Gives-one (answer_over (kept_in query.condition loaded)))

-- what is written of a step that has one end
Unchanged-one : (files : Files) (step : Outcomes (List ℕ) Refusal) → HasOneEnd step → HasOneEnd (Unchanged files step)
Unchanged-one files step one end other p q = p.2 ∙ ap (unchanged files) (one p.0 q.0 p.1 q.1) ∙ sym q.2

Means-one : (command : Command) (files : Files) (text : List ℕ) → HasOneEnd (Means command files text)
Means-one (command.import table) files text = ImportReply-one files table text
Means-one (command.export table) files text = Unchanged-one files (ExportReply files table) (ExportReply-one files table)
Means-one (command.reformat table) files text = ReformatReply-one files table
Means-one command.check files text = Unchanged-one files (CheckReply files) (CheckReply-one files)
Means-one command.explain files text = Unchanged-one files (ExplainReply files text) (ExplainReply-one files text)
Means-one command.help files text = Unchanged-one files (Gives (Ok help_text)) (Gives-one (Ok help_text))
Means-one (command.query options) files text =
    Unchanged-one files (QueryReply files text) (Then-one (QueryOf text) (AnswerOf files) (QueryOf-one text) (AnswerOf-one files))
Means-one (command.demo options) files text = λ end other p q. absurd p

pub one_reply : OneReply
one_reply None files text reply other p q = p ∙ sym q
one_reply (Some command) files text reply other p q = p.2 ∙ ap (reply_of files) (Means-one command files text p.0 q.0 p.1 q.1) ∙ sym q.2
