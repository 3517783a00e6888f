-- the first values were taken
use Rattle.std.proofs.Common.{◌≡◌, ℕ, List, ◌≤◌, ◌-◌, ◌++◌, length, take}
use Rattle.size_chooser.specs.Tallies.{IsTallyOf}
use Rattle.size_chooser.proofs.tallies.Tally.extend.Given as goal

abbrev pub invariant-loop-taken : goal.invariant-loop-taken
invariant-loop-taken g l = record {
  within : l.taken ≤ length l.values;
  tally : (list : List ℕ) → IsTallyOf g.M.Meter.measured l.fn.self.count l.fn.self.block l.fn.self.meter list
      → IsTallyOf g.M.Meter.measured l.self.count l.self.block l.self.meter (list ++ take l.taken l.values);
  frame : g.M.Meter.frame l.self.meter ≡ g.M.Meter.frame l.fn.self.meter;
}

abbrev pub decreases-loop-taken : goal.decreases-loop-taken
decreases-loop-taken g l = length l.values - l.taken
