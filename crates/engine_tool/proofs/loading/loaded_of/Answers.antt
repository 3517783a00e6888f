use Rattle.std.proofs.Common.{Err, sym, ◌∙◌}
use Rattle.std.proofs.lemmas.Result.{err_from_is_err_and}
use Rattle.stream_core.specs.Files.{Files}
use Rattle.database_core.specs.NowFiles.{Now}
use Rattle.definitions_outcomes.specs.Outcomes.{Outcomes, Gives, Then}
use Rattle.engine_tool.specs.Queries.{Query}
use Rattle.table_commands.specs.Refusals.{Refusal}
use Rattle.engine_tool.specs.Replies.{Loaded, now_of, ColumnOf, TestedOf}
use Rattle.engine_tool.specs.Texts.{query_view}
use Rattle.database_core.specs.NowViews.{now_view}
use Rattle.engine_tool.specs.Views.{values_of, loaded_view}
use Rattle.table_commands.proofs.StepLemmas.{Ends-stopped, Ends-went}
use Rattle.engine_tool.proofs.loading.loaded_of.Goals as goal

-- the steps after the now file
abbrev after_now : Files → Query → Now → Outcomes Loaded Refusal
after_now files query now = Then (ColumnOf files query.table now query.summed) (λ summed. TestedOf files query.table now summed query.condition)

pub returns-in_err-summed-clause-step : goal.returns-in_err-summed-clause-step
returns-in_err-summed-clause-step g c = λ files told.
    let p = err_from_is_err_and c.from_residual-in_err-summed.result c.from_residual-in_err-summed.ensures.1 in
    let query = query_view c.args.query.now in
    let now = now_view c.in_ok-now.now in
    rw (p.1, p.2)
    (Ends-went loaded_view (Gives (now_of files query.table)) (after_now files query) now (Err c.in_err-summed.field-0.0) (sym (c.in_ok-now.ensures.step files told))
    (Ends-stopped loaded_view (ColumnOf files query.table now query.summed) (λ summed. TestedOf files query.table now summed query.condition) values_of c.in_err-summed.field-0.0
    (c.in_err-summed.ensures.step files (c.in_ok-now.ensures.kept.files ∙ told))))

pub returns-clause-step : goal.returns-clause-step
returns-clause-step g c = λ files told.
    let query = query_view c.args.query.now in
    let now = now_view c.in_ok-now.now in
    let kept = c.in_ok-now.ensures.kept.files ∙ told in
    Ends-went loaded_view (Gives (now_of files query.table)) (after_now files query) now c.with_tested.result (sym (c.in_ok-now.ensures.step files told))
    (Ends-went loaded_view (ColumnOf files query.table now query.summed) (λ summed. TestedOf files query.table now summed query.condition) c.in_ok-summed.summed.values c.with_tested.result
    (c.in_ok-summed.ensures.step files kept) (c.with_tested.ensures.step files (c.in_ok-summed.ensures.kept.files ∙ kept)))
