use Rattle.std.proofs.Common.{◌≤◌, arith}
use Rattle.std.proofs.lemmas.Result.{IfOk-weaker}
use Rattle.definitions_queries.specs.Grammar.{Spells, IsSpelled}
use Rattle.definitions_queries.specs.Texts.{IsQueryText}
use Rattle.definitions_queries.specs.Entries.{entries, max_entries}
use Rattle.query_text.specs.Reading.{query_at}
use Rattle.query_text.specs.Views.{tokens_view, query_view}
use Rattle.query_text.specs.Cuts.{lexical_view}
use Rattle.query_text.proofs.OutcomeLaws.{reads-query}
use Rattle.query_text.proofs.AnswerLemmas.{Answered, answered}
use Rattle.query_text.proofs.EntryLemmas.{entries-fewer}
use Rattle.query_text.proofs.text.read_query.Goals as goal
use Rattle.query_text.proofs.text.read_query.Goals.{After-drop-tokens}

all : (c : After-drop-tokens) → Answered Spells query_view c.args.bytes.now c.answer.result
all c =
    answered Spells query_at reads-query query_view c.args.bytes.now (tokens_view c.in_ok-tokens.tokens.items) (lexical_view c.in_ok-tokens.error) c.query.result c.answer.result c.in_ok-tokens.ensures
    (rw c.deref.ensures.value at c.query.ensures) c.answer.ensures

pub returns-clause-read : goal.returns-clause-read
returns-clause-read c = (all c).read

pub returns-clause-spelled : goal.returns-clause-spelled
returns-clause-spelled c =
    IfOk-weaker c.answer.result (λ query. IsQueryText c.args.bytes.now (query_view query)) (λ query. IsSpelled (query_view query)) (λ query is. (is.0, is.2)) (all c).read

pub returns-clause-bounded : goal.returns-clause-bounded
returns-clause-bounded c =
    IfOk-weaker c.answer.result (λ query. IsQueryText c.args.bytes.now (query_view query)) (λ query. entries (query_view query) ≤ max_entries)
    (λ query is. omega (arith, entries-fewer c.args.bytes.now (query_view query) is, c.requires)) (all c).read

pub returns-clause-only : goal.returns-clause-only
returns-clause-only c = (all c).only

pub returns-clause-refused : goal.returns-clause-refused
returns-clause-refused c = (all c).refused
