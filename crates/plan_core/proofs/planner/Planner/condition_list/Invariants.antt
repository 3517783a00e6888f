-- the conditions left make the whole
use Rattle.std.proofs.Common.{◌≡◌, map, drop}
use Rattle.std.specs.Prelude.{None, ◌≤◌, ◌+◌, take, sum_by}
use Rattle.plan_core.specs.Sizes.{size_of}
use Rattle.plan_core.specs.Planner.{add_conditions}
use Rattle.plan_core.specs.Planner.{conditions_on}
use Rattle.plan_core.specs.Views.{listed_of}
use Rattle.query_bind.specs.Views.{tested_view}
use Rattle.plan_core.proofs.planner.Planner.condition_list.Given as goal

abbrev pub invariant-loop-condition : goal.invariant-loop-condition
invariant-loop-condition l = record {
  list : add_conditions (listed_of l.self l.running) (conditions_on l.table (map tested_view (drop l.condition-index l.conditions)))
      ≡ add_conditions (listed_of l.initial.self None) (conditions_on l.table (map tested_view l.conditions));
  columns : l.self.columns ≤ l.initial.self.columns + sum_by size_of (take l.condition-index l.conditions);
}
