-- the range with the keys so far
use Rattle.std.proofs.Common.{◌≤◌, All, take}
use Rattle.join_ops.proofs.ranges.widened.Given as goal

abbrev pub invariant-loop-key : goal.invariant-loop-key
invariant-loop-key l = record {
  low : l.wide.low ≤ l.fn.range.low;
  high : l.fn.range.high ≤ l.wide.high;
  within : All (λ key. (l.wide.low ≤ key) × (key ≤ l.wide.high)) (take l.key-index l.keys);
}
