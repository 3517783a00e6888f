-- the halves so far are those of the sum so far
use Rattle.std.proofs.Common.{◌≡◌, ◌+◌, ◌*◌, ◌^◌, ◌≤◌, take, sum}
use Rattle.sum_ops.proofs.blocks.block_sum.Given as goal

abbrev pub invariant-loop-value : goal.invariant-loop-value
invariant-loop-value l = record {
  low : l.low ≤ l.value-index * 4294967295;
  high : l.high ≤ l.value-index * 4294967295;
  sum : l.low + l.high * 2 ^ 32 ≡ sum (take l.value-index l.values);
}
