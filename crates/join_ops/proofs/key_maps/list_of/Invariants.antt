-- the keys of the blocks so far
use Rattle.std.proofs.Common.{◌≡◌, ◌+◌, ◌*◌, ◌≤◌, take}
use Rattle.definitions_blocks.specs.Blocks.{block_values}
use Rattle.join_ops.proofs.key_maps.list_of.Given as goal

abbrev pub invariant-loop-number : goal.invariant-loop-number
invariant-loop-number g l = record {
  list : l.list.items ≡ take (l.number * block_values) (g.S.BlockSource.list l.fn.keys);
  kept : g.S.BlockSource.list l.keys ≡ g.S.BlockSource.list l.fn.keys;
  later : l.fn.steps ≤ l.steps;
  steps : l.steps ≤ l.fn.steps + l.number;
}
