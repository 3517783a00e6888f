use Rattle.std.proofs.Common.{ℕ, List, Ok, Err, sym}
use Rattle.std.proofs.lemmas.Result.{err_from_is_err_and}
use Rattle.definitions_outcomes.specs.Outcomes.{Gives}
use Rattle.query_bind.specs.Binding.{Binding, bound_of}
use Rattle.query_bind.specs.Views.{bound_view}
use Rattle.query_text.specs.Views.{query_view}
use Rattle.table_commands.proofs.StepLemmas.{Ends-stopped, Ends-went, Ends-computed}
use Rattle.query_commands.specs.Explaining.{with_line, BindingStep, plan_lines}
use Rattle.query_commands.proofs.explaining.explain_in.Goals as goal

pub returns-in_err-bound-clause-step : goal.returns-in_err-bound-clause-step
returns-in_err-bound-clause-step c =
    let p = err_from_is_err_and c.from_residual.result c.from_residual.ensures.1 in
    let schema = c.args.schema.now in
    let query = query_view c.args.query.now in
    let stopped = c.in_err-bound.field-0.0 in
    rw (p.1, p.2)
    (Ends-stopped (λ (b : List ℕ). b) (BindingStep schema query) (λ (binding : Binding). Gives (Ok (plan_lines schema binding))) bound_view stopped
    (Ends-computed bound_view (Err stopped) (with_line (bound_of schema query)) c.in_err-bound.ensures.step))

pub returns-clause-step : goal.returns-clause-step
returns-clause-step c =
    let schema = c.args.schema.now in
    let bound = bound_view c.in_ok-bound.bound in
    Ends-went (λ (b : List ℕ). b) (BindingStep schema (query_view c.args.query.now)) (λ (binding : Binding). Gives (Ok (plan_lines schema binding))) bound c.lines_of.result
    (sym c.in_ok-bound.ensures.step) (Ends-computed (λ (b : List ℕ). b) c.lines_of.result (Ok (plan_lines schema bound)) c.lines_of.ensures.step)
