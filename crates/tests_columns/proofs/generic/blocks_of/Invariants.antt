use Rattle.std.proofs.Common.{◌≡◌, length}
use Rattle.tests_columns.proofs.generic.blocks_of.Given as goal

abbrev pub invariant-loop-number : goal.invariant-loop-number
invariant-loop-number g l = length (g.S.BlockSource.list l.source) ≡ length (g.S.BlockSource.list l.initial.source)
