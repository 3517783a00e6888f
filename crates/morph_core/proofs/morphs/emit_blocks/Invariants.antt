-- the blocks so far were emitted
use Rattle.std.proofs.Common.{◌≡◌, ◌*◌, take}
use Rattle.definitions_blocks.specs.Blocks.{block_values}
use Rattle.morph_core.proofs.morphs.emit_blocks.Given as goal

abbrev pub invariant-loop-number : goal.invariant-loop-number
invariant-loop-number g l = record {
  emitted : g.O.Emit.pushed l.out (take (l.number * block_values) (g.S.BlockSource.list l.fn.source));
  frame : g.O.Emit.frame l.out ≡ g.O.Emit.frame l.fn.out;
  list : g.S.BlockSource.list l.source ≡ g.S.BlockSource.list l.fn.source;
}
