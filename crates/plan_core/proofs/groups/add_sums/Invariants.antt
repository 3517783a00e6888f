-- the sums left make the whole
use Rattle.std.proofs.Common.{◌≤◌, take, ◌≡◌, ◌+◌, drop, []}
use Rattle.plan_core.specs.WholePlan as whole
use Rattle.plan_core.specs.Views.{rows_of, sums_of}
use Rattle.query_bind.specs.Views.{bound_view}
use Rattle.plan_core.proofs.groups.add_sums.Given as goal
use Rattle.std.specs.Prelude.{sum_by}

abbrev pub invariant-loop-sum : goal.invariant-loop-sum
invariant-loop-sum l = record {
  made : whole.add_sums (bound_view l.bound) (rows_of l.initial.planner l.rows.facts l.rows.lists.items) l.ids (l.number + 1) (sums_of l.planner l.places.items) (drop l.sum-index l.bound.sums)
      ≡ whole.add_sums (bound_view l.bound) (rows_of l.initial.planner l.rows.facts l.rows.lists.items) l.ids 1 (sums_of l.initial.planner []) l.bound.sums;
  columns : l.planner.columns ≤ l.initial.planner.columns + sum_by (λ sum. 4) (take l.sum-index l.bound.sums);
  number : l.number ≡ l.sum-index;
}
