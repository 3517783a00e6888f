-- the cell holds the sum of the products of the blocks so far
use Rattle.std.proofs.Common.{◌≡◌, ◌+◌, ◌*◌, ◌≤◌, ◌∷◌, [], take, get_or, sum}
use Rattle.definitions_blocks.specs.Blocks.{block_values}
use Rattle.definitions_operators.specs.Groups.{products_of}
use Rattle.sum_ops.specs.Cells.{cell_of}
use Rattle.sum_ops.proofs.wholes.sum_product_all.Given as goal

abbrev pub invariant-loop-number : goal.invariant-loop-number
invariant-loop-number g l =
    let first_list = g.A.BlockSource.list l.fn.first in
    let second_list = g.B.BlockSource.list l.fn.second in
    record {
      kept_first : g.A.BlockSource.list l.first ≡ first_list;
      kept_second : g.B.BlockSource.list l.second ≡ second_list;
      sums : l.sums ≡ cell_of (get_or l.fn.sums 0 0 + sum (take (l.number * block_values) (products_of first_list second_list))) ∷ [];
      later : l.fn.steps ≤ l.steps;
      steps : l.steps ≤ l.fn.steps + 2 * l.number;
    }
