-- the first values were pushed
use Rattle.std.proofs.Common.{◌≡◌, ◌≤◌, ◌-◌, length, take}
use Rattle.tests_sizes.proofs.generic.push_pieces.Given as goal

abbrev pub invariant-loop-taken : goal.invariant-loop-taken
invariant-loop-taken g l = record {
  within : l.taken ≤ length l.values;
  pushed : g.E.Emit.pushed l.into (take l.taken l.values);
  frame : g.E.Emit.frame l.into ≡ g.E.Emit.frame l.fn.into;
}

abbrev pub decreases-loop-taken : goal.decreases-loop-taken
decreases-loop-taken g l = length l.values - l.taken
