use Rattle.std.proofs.Common.{ℕ, List}
use Rattle.std.proofs.lemmas.Result.{err_from_is_err_and}
use Rattle.query_text.specs.Views.{query_view}
use Rattle.table_commands.proofs.StepLemmas.{Ends-stopped, Ends-went}
use Rattle.query_commands.specs.Explaining.{TextStep, ExplainOf}
use Rattle.query_commands.proofs.explaining.explain_answer.Goals as goal

-- the text was not read, or says no query: nothing was loaded
pub returns-in_err-query-clause-step : goal.returns-in_err-query-clause-step
returns-in_err-query-clause-step g c = λ files text told given.
    let p = err_from_is_err_and c.from_residual.result c.from_residual.ensures.1 in
    rw (p.1, p.2)
    (Ends-stopped (λ (b : List ℕ). b) (TextStep text) (ExplainOf files) query_view c.in_err-query.field-0.0 (c.in_err-query.ensures.step text given))

pub returns-clause-step : goal.returns-clause-step
returns-clause-step g c = λ files text told given.
    Ends-went (λ (b : List ℕ). b) (TextStep text) (ExplainOf files) (query_view c.in_ok-query.query) c.explain_of.result (c.in_ok-query.ensures.step text given)
    (c.explain_of.ensures.step files told)

-- where a query was read, the text says one
pub returns-clause-unasked : goal.returns-clause-unasked
returns-clause-unasked g c = λ text given none. absurd (none (query_view c.in_ok-query.query) (c.in_ok-query.ensures.step text given))
