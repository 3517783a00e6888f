-- Of each strand, the words that are written and the bits above them are the number that the rows so far make.
use Rattle.strand_pack.proofs.BegunStrands.{AreBegun}
use Rattle.strand_pack.proofs.packing.pack_strands.Given as goal

abbrev pub invariant-loop-row : goal.invariant-loop-row
invariant-loop-row g l = AreBegun l.width l.first g.row.L l.row l.line l.bits l.full l.into l.words l.fn.into
