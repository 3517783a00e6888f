-- the dimensions of the joins left make the whole
use Rattle.std.proofs.Common.{◌≤◌, ◌+◌, take, length, ◌≡◌, map, drop, []}
use Rattle.plan_core.specs.Planner.{add_dimensions}
use Rattle.plan_core.specs.Views.{dimension_view}
use Rattle.query_bind.specs.Views.{bound_view}
use Rattle.plan_core.proofs.dimensions.add_all.Given as goal
use Rattle.std.specs.Prelude.{sum_by}
use Rattle.plan_core.specs.Sizes.{sizes_of}

abbrev pub invariant-loop-to : goal.invariant-loop-to
invariant-loop-to l = record {
  made : add_dimensions l.planner (bound_view l.bound) (drop l.to-index l.bound.joins) (map dimension_view l.done.items)
      ≡ add_dimensions l.initial.planner (bound_view l.bound) l.bound.joins [];
  columns : l.planner.columns ≤ l.initial.planner.columns + sum_by (λ to. sizes_of l.bound.conditions + 1) (take l.to-index l.bound.joins);
  count : length l.done.items ≡ l.to-index;
}
