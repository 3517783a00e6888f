-- what was appended is the position list of the values so far
use Rattle.std.proofs.Common.{◌≡◌, ◌-◌, ◌≤◌, ◌++◌, length, take}
use Rattle.definitions_operators.specs.Operators.{positions_in}
use Rattle.scan_ops.proofs.selection.append_positions.Given as goal

abbrev pub invariant-loop-first : goal.invariant-loop-first
invariant-loop-first l = record {
  within : l.first ≤ length l.values;
  positions : l.positions.items ≡ l.initial.positions.items ++ positions_in l.low l.high (take l.first l.values);
}

abbrev pub decreases-loop-first : goal.decreases-loop-first
decreases-loop-first l = length l.values - l.first
