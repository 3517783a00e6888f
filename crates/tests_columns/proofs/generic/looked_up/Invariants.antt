use Rattle.std.proofs.Common.{◌≡◌, length}
use Rattle.tests_columns.proofs.generic.looked_up.Given as goal

abbrev pub invariant-loop-place : goal.invariant-loop-place
invariant-loop-place g l = l.count ≡ length (g.P.PlaceSource.list l.source)
