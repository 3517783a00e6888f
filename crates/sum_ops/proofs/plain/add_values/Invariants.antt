-- the sum of the blocks so far
use Rattle.std.proofs.Common.{◌≡◌, ◌*◌, ◌^◌, ◌≤◌, take, sum}
use Rattle.definitions_blocks.specs.Blocks.{block_values}
use Rattle.sum_ops.proofs.plain.add_values.Given as goal

abbrev pub invariant-loop-number : goal.invariant-loop-number
invariant-loop-number l = record {
  total : l.total ≡ sum (take (l.number * block_values) l.values);
  small : l.total ≤ l.number * block_values * 2 ^ 64;
}
