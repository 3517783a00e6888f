use Rattle.std.specs.Prelude.{◌≤◌, All}
use Rattle.std.proofs.lemmas.Result.{IfOk-weaker}
use Rattle.definitions_queries.specs.Grammar.{SpellsAll, IsSpelled}
use Rattle.definitions_queries.specs.Texts.{max_query, IsQueriesText}
use Rattle.definitions_queries.specs.Entries.{entries, max_entries}
use Rattle.query_text.specs.Reading.{queries_at}
use Rattle.query_text.specs.Views.{tokens_view, query_view, queries_view}
use Rattle.query_text.specs.Cuts.{lexical_view}
use Rattle.query_text.proofs.OutcomeLaws.{reads-queries}
use Rattle.query_text.proofs.AnswerLemmas.{Answered, answered}
use Rattle.query_text.proofs.QueryListLemmas.{each_spelled, each_bounded}
use Rattle.query_text.proofs.text.read_queries.Goals as goal
use Rattle.query_text.proofs.text.read_queries.Goals.{After-drop-tokens}

all : (c : After-drop-tokens) → Answered SpellsAll queries_view c.args.bytes.now c.answer.result
all c =
    answered SpellsAll queries_at reads-queries queries_view c.args.bytes.now (tokens_view c.in_ok-tokens.tokens.items) (lexical_view c.in_ok-tokens.error) c.queries.result c.answer.result c.in_ok-tokens.ensures
    (rw c.deref.ensures.value at c.queries.ensures) c.answer.ensures

pub returns-clause-read : goal.returns-clause-read
returns-clause-read c = (all c).read

pub returns-clause-spelled : goal.returns-clause-spelled
returns-clause-spelled c =
    IfOk-weaker c.answer.result (λ queries. IsQueriesText c.args.bytes.now (queries_view queries)) (λ queries. All (λ query. IsSpelled (query_view query)) queries)
    (λ queries is. each_spelled max_query c.args.bytes.now queries c.requires is) (all c).read

pub returns-clause-bounded : goal.returns-clause-bounded
returns-clause-bounded c =
    IfOk-weaker c.answer.result (λ queries. IsQueriesText c.args.bytes.now (queries_view queries)) (λ queries. All (λ query. entries (query_view query) ≤ max_entries) queries)
    (λ queries is. each_bounded max_query c.args.bytes.now queries c.requires is) (all c).read

pub returns-clause-only : goal.returns-clause-only
returns-clause-only c = (all c).only

pub returns-clause-refused : goal.returns-clause-refused
returns-clause-refused c = (all c).refused
