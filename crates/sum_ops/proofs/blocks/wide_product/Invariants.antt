-- the total so far has the cell of the sum of the products so far
use Rattle.std.proofs.Common.{◌≡◌, ◌*◌, ◌^◌, ◌≤◌, take, sum}
use Rattle.definitions_operators.specs.Groups.{products_of}
use Rattle.sum_ops.specs.Cells.{cell_of}
use Rattle.sum_ops.proofs.blocks.wide_product.Given as goal

abbrev pub invariant-loop-row : goal.invariant-loop-row
invariant-loop-row l = record {
  cell : cell_of l.total ≡ cell_of (sum (take l.row (products_of l.first l.second)));
  small : l.total ≤ l.row * 2 ^ 64;
}
