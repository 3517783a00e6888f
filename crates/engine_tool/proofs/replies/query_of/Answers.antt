use Rattle.std.proofs.Common.{sym}
use Rattle.definitions_outcomes.specs.Outcomes.{Gives, OneOr}
use Rattle.engine_tool.specs.Queries.{Spells, max_query}
use Rattle.table_commands.specs.Refusals.{bad_query, limited}
use Rattle.engine_tool.specs.Texts.{query_view}
use Rattle.table_commands.proofs.StepLemmas.{Ends-went}
use Rattle.engine_tool.proofs.replies.query_of.Goals as goal

pub returns-clause-step : goal.returns-clause-step
returns-clause-step g c = λ text told.
    Ends-went query_view (Gives (limited max_query bad_query text)) (λ bytes. OneOr (Spells bytes) bad_query) c.in_ok-text.text c.spelled.result
    (sym (c.in_ok-text.ensures.step text told)) (rw c.as_slice.ensures at c.spelled.ensures.step)
