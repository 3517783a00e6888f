-- the rows so far were added
use Rattle.std.proofs.Common.{◌≡◌, take}
use Rattle.sum_ops.specs.Cells.{cells_after}
use Rattle.definitions_operators.specs.Groups.{products_of}
use Rattle.sum_ops.proofs.by_groups.add_products.Given as goal

abbrev pub invariant-loop-row : goal.invariant-loop-row
invariant-loop-row l = l.sums ≡ cells_after l.fn.sums (take l.row (products_of l.first l.second)) (take l.row l.ids)
