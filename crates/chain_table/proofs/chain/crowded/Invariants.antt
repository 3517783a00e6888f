-- at most each entry so far was counted
use Rattle.std.proofs.Common.{◌≤◌}
use Rattle.chain_table.proofs.chain.crowded.Given as goal

abbrev pub invariant-loop-entry : goal.invariant-loop-entry
invariant-loop-entry l = l.count ≤ l.entry
