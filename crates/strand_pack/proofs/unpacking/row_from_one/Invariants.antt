-- The strands before the group are read.
use Rattle.std.proofs.Common.{◌≡◌, ℕ, ◌+◌, ◌*◌, ◌/◌, ◌^◌, ◌<◌, get_or, bit_and}
use Rattle.definitions_blocks.specs.Words.{word_of}
use Rattle.strand_pack.proofs.unpacking.row_from_one.Given as goal

abbrev pub invariant-loop-group : goal.invariant-loop-group
invariant-loop-group g l = (k : ℕ) → k < l.group * g.row.L → get_or l.into k 0 ≡ bit_and (word_of l.bytes (l.place + k) / 2 ^ l.offset) l.mask
