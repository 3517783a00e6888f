-- the semi-joins of the dimensions left make the whole
use Rattle.std.proofs.Common.{◌≤◌, ◌+◌, take, ◌≡◌, map, drop}
use Rattle.std.specs.Prelude.{filter, not}
use Rattle.plan_core.specs.Planner.{is_joined}
use Rattle.plan_core.specs.Planner.{add_semi_joins}
use Rattle.plan_core.specs.Views.{listed_of, dimension_view}
use Rattle.query_bind.specs.Views.{bound_view}
use Rattle.plan_core.proofs.dimensions.add_semi_joins.Given as goal
use Rattle.std.specs.Prelude.{sum_by}

abbrev pub invariant-loop-dimension : goal.invariant-loop-dimension
invariant-loop-dimension l = record {
  made : add_semi_joins (listed_of l.planner l.running) (filter (λ dimension. not (is_joined (bound_view l.bound) l.schema dimension.to)) (map dimension_view (drop l.dimension-index l.dimensions)))
      ≡ add_semi_joins (listed_of l.initial.planner l.fn.facts) (filter (λ dimension. not (is_joined (bound_view l.bound) l.schema dimension.to)) (map dimension_view l.dimensions));
  columns : l.planner.columns ≤ l.initial.planner.columns + sum_by (λ dimension. 2) (take l.dimension-index l.dimensions);
}
