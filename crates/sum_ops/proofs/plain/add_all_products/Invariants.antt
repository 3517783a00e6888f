-- the cell holds the sum of the products of the blocks so far
use Rattle.std.proofs.Common.{◌≡◌, ◌+◌, ◌*◌, ◌∷◌, [], take, get_or, sum}
use Rattle.definitions_blocks.specs.Blocks.{block_values}
use Rattle.definitions_operators.specs.Groups.{products_of}
use Rattle.sum_ops.specs.Cells.{cell_of}
use Rattle.sum_ops.proofs.plain.add_all_products.Given as goal

abbrev pub invariant-loop-number : goal.invariant-loop-number
invariant-loop-number l = l.sums ≡ cell_of (get_or l.fn.sums 0 0 + sum (take (l.number * block_values) (products_of l.first l.second))) ∷ []
