-- The values so far are packed, in the bytes that are written and in the bits that wait.
use Rattle.tail_pack.proofs.BegunTails.{IsBegun}
use Rattle.tail_pack.proofs.packing.pack_values.Given as goal

abbrev pub invariant-loop-value : goal.invariant-loop-value
invariant-loop-value l = IsBegun l.width l.value-index l.written l.bits l.waiting l.values l.into
