-- the pairs of the values so far
use Rattle.std.proofs.Common.{◌≡◌, take}
use Rattle.join_ops.specs.Joins.{lefts_from, rights_from}
use Rattle.join_ops.proofs.plain.join.Given as goal

abbrev pub invariant-loop-place : goal.invariant-loop-place
invariant-loop-place l = record {
  left : l.lefts.items ≡ lefts_from l.keys 0 (take l.place l.probe);
  right : l.rights.items ≡ rights_from l.keys (take l.place l.probe);
}
