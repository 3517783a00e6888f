-- the columns left make the whole
use Rattle.std.proofs.Common.{◌≤◌, take, length, ◌≡◌, ◌+◌, drop, []}
use Rattle.std.specs.Prelude.{None}
use Rattle.plan_core.specs.WholePlan as whole
use Rattle.plan_core.specs.Views.{rows_of, groups_of}
use Rattle.query_bind.specs.Views.{bound_view}
use Rattle.plan_core.proofs.groups.add_groups.Given as goal
use Rattle.std.specs.Prelude.{sum_by}

abbrev pub invariant-loop-id : goal.invariant-loop-id
invariant-loop-id l = record {
  made : whole.add_groups (bound_view l.bound) (rows_of l.initial.planner l.rows.facts l.rows.lists.items) (groups_of l.planner l.last l.values.items) (drop l.id-index l.bound.groups)
      ≡ whole.add_groups (bound_view l.bound) (rows_of l.initial.planner l.rows.facts l.rows.lists.items) (groups_of l.initial.planner None []) l.bound.groups;
  columns : l.planner.columns ≤ l.initial.planner.columns + sum_by (λ id. 3) (take l.id-index l.bound.groups);
  count : length l.values.items ≡ l.id-index;
}
