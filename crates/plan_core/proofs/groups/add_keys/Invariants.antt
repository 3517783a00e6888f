-- the keys left make the whole
use Rattle.std.proofs.Common.{◌≤◌, ◌≡◌, ◌+◌, drop, []}
use Rattle.plan_core.specs.WholePlan as whole
use Rattle.plan_core.specs.Views.{keys_of}
use Rattle.plan_core.proofs.groups.add_keys.Given as goal

abbrev pub invariant-loop-input : goal.invariant-loop-input
invariant-loop-input l = record {
  made : whole.add_keys l.extents (keys_of l.planner l.keys.items) (drop l.input-index l.values)
      ≡ whole.add_keys l.extents (keys_of l.initial.planner []) l.values;
  columns : l.planner.columns ≤ l.initial.planner.columns + l.input-index;
}
