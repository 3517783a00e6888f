-- the first values were pushed
use Rattle.std.proofs.Common.{◌≡◌, take}
use Rattle.tests_sizes.proofs.generic.push_each.Given as goal

abbrev pub invariant-loop-value : goal.invariant-loop-value
invariant-loop-value g l = record {
  taken : g.E.Emit.pushed l.into (take l.value-index l.values);
  frame : g.E.Emit.frame l.into ≡ g.E.Emit.frame l.fn.into;
}
