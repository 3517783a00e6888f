use Rattle.std.proofs.Common.{◌≡◌, Ok, refl, sym, subst, inl}
use Rattle.engine_tool.specs.Replies.{ColumnOf}
use Rattle.database_core.specs.NowViews.{now_view}
use Rattle.engine_tool.proofs.loading.with_tested.Goals as goal

-- the column that is tested is the one that was loaded
pub returns-then-are_same-clause-step : goal.returns-then-are_same-clause-step
returns-then-are_same-clause-step g c = λ files told.
    let condition = c.in-Some.condition in
    let same : condition.tested ≡ c.args.query.now.summed = c.if-are_same.ensures.0 refl in
    rw c.in-Some.is
    (inl (c.args.summed.values, subst (λ column. ColumnOf files c.args.query.now.table (now_view c.args.now) column (Ok c.args.summed.values)) (sym same) (c.requires.summed files told), refl))
