-- the pairs of the values so far
use Rattle.std.proofs.Common.{◌≡◌, ◌+◌, length, take}
use Rattle.join_ops.specs.Joins.{rights_from}
use Rattle.join_ops.proofs.fits.room_after.Given as goal

abbrev pub invariant-loop-value : goal.invariant-loop-value
invariant-loop-value l = record {
  count : l.left + length (rights_from l.keys (take l.value-index l.values)) ≡ l.room;
}
