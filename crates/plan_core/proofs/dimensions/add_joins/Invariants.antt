-- the joins of the dimensions left make the whole
use Rattle.std.proofs.Common.{◌≤◌, ◌+◌, take, length, ◌≡◌, map, drop, []}
use Rattle.std.specs.Prelude.{filter}
use Rattle.plan_core.specs.Planner.{is_joined}
use Rattle.plan_core.specs.Planner.{add_joins}
use Rattle.plan_core.specs.Views.{rows_of, dimension_view}
use Rattle.query_bind.specs.Views.{bound_view}
use Rattle.plan_core.proofs.dimensions.add_joins.Given as goal
use Rattle.std.specs.Prelude.{sum_by}

abbrev pub invariant-loop-dimension : goal.invariant-loop-dimension
invariant-loop-dimension l = record {
  made : add_joins (rows_of l.planner l.rows.facts l.rows.lists.items) (filter (λ dimension. is_joined (bound_view l.bound) l.schema dimension.to) (map dimension_view (drop l.dimension-index l.dimensions)))
      ≡ add_joins (rows_of l.initial.planner l.fn.facts []) (filter (λ dimension. is_joined (bound_view l.bound) l.schema dimension.to) (map dimension_view l.dimensions));
  columns : l.planner.columns ≤ l.initial.planner.columns + sum_by (λ dimension. 5 + length l.dimensions) (take l.dimension-index l.dimensions);
  count : length l.rows.lists.items ≤ l.dimension-index;
}
