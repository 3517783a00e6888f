-- the values at the places so far
use Rattle.std.proofs.Common.{◌≡◌, take}
use Rattle.definitions_operators.specs.Operators.{values_at}
use Rattle.scan_ops.proofs.projection.project.Given as goal

abbrev pub invariant-loop-place : goal.invariant-loop-place
invariant-loop-place l = l.found.items ≡ values_at l.values (take l.place-index l.places)
