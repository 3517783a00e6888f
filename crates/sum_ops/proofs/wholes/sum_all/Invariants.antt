-- the sum of the blocks so far
use Rattle.std.proofs.Common.{◌≡◌, ◌+◌, ◌*◌, ◌^◌, ◌≤◌, take, sum}
use Rattle.definitions_blocks.specs.Blocks.{block_values}
use Rattle.sum_ops.proofs.wholes.sum_all.Given as goal

abbrev pub invariant-loop-number : goal.invariant-loop-number
invariant-loop-number g l = record {
  kept : g.V.BlockSource.list l.values ≡ g.V.BlockSource.list l.fn.values;
  total : l.total ≡ sum (take (l.number * block_values) (g.V.BlockSource.list l.fn.values));
  small : l.total ≤ l.number * block_values * 2 ^ 64;
  later : l.fn.steps ≤ l.steps;
  steps : l.steps ≤ l.fn.steps + l.number;
}
