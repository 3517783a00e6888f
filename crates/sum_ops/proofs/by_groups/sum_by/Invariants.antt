-- the blocks so far were added
use Rattle.std.proofs.Common.{◌≡◌, ◌+◌, ◌*◌, ◌≤◌, take}
use Rattle.definitions_blocks.specs.Blocks.{block_values}
use Rattle.sum_ops.specs.Cells.{cells_after}
use Rattle.sum_ops.proofs.by_groups.sum_by.Given as goal

abbrev pub invariant-loop-number : goal.invariant-loop-number
invariant-loop-number g l =
    let values_list = g.V.BlockSource.list l.fn.values in
    let ids_list = g.I.BlockSource.list l.fn.ids in
    record {
      kept_values : g.V.BlockSource.list l.values ≡ values_list;
      kept_ids : g.I.BlockSource.list l.ids ≡ ids_list;
      sums : l.sums ≡ cells_after l.fn.sums (take (l.number * block_values) values_list) (take (l.number * block_values) ids_list);
      later : l.fn.steps ≤ l.steps;
      steps : l.steps ≤ l.fn.steps + 2 * l.number;
    }
