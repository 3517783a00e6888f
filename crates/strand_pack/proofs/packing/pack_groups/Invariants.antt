-- The strands before the group are packed.
use Rattle.std.proofs.Common.{◌*◌}
use Rattle.strand_pack.specs.Words.{AreEncoded}
use Rattle.strand_pack.proofs.packing.pack_groups.Given as goal

abbrev pub invariant-loop-group : goal.invariant-loop-group
invariant-loop-group g l = AreEncoded l.width 0 (l.group * g.row.L) l.full l.into
