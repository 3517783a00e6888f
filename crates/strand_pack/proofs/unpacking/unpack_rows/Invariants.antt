-- The rows before this one are read.
use Rattle.std.proofs.Common.{◌≡◌, ℕ, ◌*◌, ◌/◌, ◌%◌, ◌<◌, get_or}
use Rattle.strand_pack.specs.Words.{value_in}
use Rattle.strand_pack.proofs.unpacking.unpack_rows.Given as goal

abbrev pub invariant-loop-row : goal.invariant-loop-row
invariant-loop-row g l = (i : ℕ) → i < l.row * 16 → get_or l.into i 0 ≡ value_in l.bytes l.width (i / 16) (i % 16)
