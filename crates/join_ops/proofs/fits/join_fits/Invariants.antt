-- the pairs of the blocks so far
use Rattle.std.proofs.Common.{◌≡◌, ◌+◌, ◌*◌, ◌≤◌, length, take}
use Rattle.definitions_blocks.specs.Blocks.{block_values}
use Rattle.definitions_blocks.specs.Columns.{max_rows}
use Rattle.join_ops.specs.Joins.{rights_from}
use Rattle.join_ops.proofs.fits.join_fits.Given as goal

abbrev pub invariant-loop-number : goal.invariant-loop-number
invariant-loop-number g l = record {
  count : l.room + length (rights_from l.keys (take (l.number * block_values) (g.S.BlockSource.list l.fn.probe))) ≡ max_rows;
  kept : g.S.BlockSource.list l.probe ≡ g.S.BlockSource.list l.fn.probe;
  later : l.fn.steps ≤ l.steps;
  steps : l.steps ≤ l.fn.steps + l.number + 1 * length (take (l.number * block_values) (g.S.BlockSource.list l.fn.probe));
}
