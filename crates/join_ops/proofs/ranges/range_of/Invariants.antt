-- the range of the keys of the blocks so far
use Rattle.std.proofs.Common.{◌≡◌, ◌+◌, ◌*◌, ◌≤◌, All, take}
use Rattle.definitions_blocks.specs.Blocks.{block_values}
use Rattle.join_ops.proofs.ranges.range_of.Given as goal

abbrev pub invariant-loop-number : goal.invariant-loop-number
invariant-loop-number g l = record {
  within : All (λ key. (l.range.low ≤ key) × (key ≤ l.range.high)) (take (l.number * block_values) (g.S.BlockSource.list l.fn.keys));
  kept : g.S.BlockSource.list l.keys ≡ g.S.BlockSource.list l.fn.keys;
  later : l.fn.steps ≤ l.steps;
  steps : l.steps ≤ l.fn.steps + l.number;
}
