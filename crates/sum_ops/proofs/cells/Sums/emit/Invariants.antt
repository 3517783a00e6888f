-- the cells of the blocks so far were emitted
use Rattle.std.proofs.Common.{◌≡◌, ◌*◌, take}
use Rattle.definitions_blocks.specs.Blocks.{block_values}
use Rattle.sum_ops.proofs.cells.Sums.emit.Given as goal

abbrev pub invariant-loop-number : goal.invariant-loop-number
invariant-loop-number g l = record {
  emitted : g.O.Emit.pushed l.out (take (l.number * block_values) l.self);
  frame : g.O.Emit.frame l.out ≡ g.O.Emit.frame l.fn.out;
}
