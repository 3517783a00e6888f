use Rattle.std.proofs.Common.{sym}
use Rattle.definitions_outcomes.specs.Outcomes.{Gives}
use Rattle.definitions_queries.specs.Texts.{max_query}
use Rattle.query_text.specs.Views.{query_view}
use Rattle.table_commands.specs.Querying.{query_too_long}
use Rattle.table_commands.specs.Refusals.{limited}
use Rattle.table_commands.proofs.StepLemmas.{Ends-went}
use Rattle.query_commands.specs.Explaining.{QueryIn}
use Rattle.query_commands.proofs.texts.query_of.Goals as goal

pub returns-clause-step : goal.returns-clause-step
returns-clause-step g c = λ text told.
    Ends-went query_view (Gives (limited max_query query_too_long text)) QueryIn c.in_ok-text.text c.query_in.result
    (sym (c.in_ok-text.ensures.step text told)) (rw c.as_slice.ensures at c.query_in.ensures.step)
