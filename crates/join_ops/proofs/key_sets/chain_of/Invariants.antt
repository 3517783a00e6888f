-- the keys of the blocks so far were added
use Rattle.std.proofs.Common.{◌≡◌, ◌+◌, ◌*◌, ◌≤◌, length, take}
use Rattle.definitions_blocks.specs.Blocks.{block_values}
use Rattle.join_ops.specs.KeySets.{HaveSameKeys}
use Rattle.join_ops.proofs.key_sets.chain_of.Given as goal

abbrev pub invariant-loop-number : goal.invariant-loop-number
invariant-loop-number g l = record {
  kept : g.S.BlockSource.list l.keys ≡ g.S.BlockSource.list l.fn.keys;
  added : HaveSameKeys l.set.keys (take (l.number * block_values) (g.S.BlockSource.list l.fn.keys));
  few : length l.set.keys ≤ length (take (l.number * block_values) (g.S.BlockSource.list l.fn.keys));
  room : l.set.room ≡ length (g.S.BlockSource.list l.fn.keys);
  later : l.fn.steps ≤ l.steps;
  steps : l.steps ≤ l.fn.steps + l.number;
}
