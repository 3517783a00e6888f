-- the words so far are the cells so far
use Rattle.std.proofs.Common.{◌≡◌, take}
use Rattle.definitions_blocks.specs.Blocks.{block_at}
use Rattle.sum_ops.proofs.cells.Sums.read_block.Given as goal

abbrev pub invariant-loop-cell : goal.invariant-loop-cell
invariant-loop-cell l = l.words ≡ take l.cell-index (block_at l.self l.number)
