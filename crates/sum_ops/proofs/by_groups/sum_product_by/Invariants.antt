-- the products of the blocks so far were added
use Rattle.std.proofs.Common.{◌≡◌, ◌+◌, ◌*◌, ◌≤◌, take}
use Rattle.definitions_blocks.specs.Blocks.{block_values}
use Rattle.definitions_operators.specs.Groups.{products_of}
use Rattle.sum_ops.specs.Cells.{cells_after}
use Rattle.sum_ops.proofs.by_groups.sum_product_by.Given as goal

abbrev pub invariant-loop-number : goal.invariant-loop-number
invariant-loop-number g l =
    let first_list = g.A.BlockSource.list l.fn.first in
    let second_list = g.B.BlockSource.list l.fn.second in
    let ids_list = g.I.BlockSource.list l.fn.ids in
    record {
      kept_first : g.A.BlockSource.list l.first ≡ first_list;
      kept_second : g.B.BlockSource.list l.second ≡ second_list;
      kept_ids : g.I.BlockSource.list l.ids ≡ ids_list;
      sums : l.sums ≡ cells_after l.fn.sums (take (l.number * block_values) (products_of first_list second_list)) (take (l.number * block_values) ids_list);
      later : l.fn.steps ≤ l.steps;
      steps : l.steps ≤ l.fn.steps + 3 * l.number;
    }
