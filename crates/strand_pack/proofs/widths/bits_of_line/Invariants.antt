-- A bit is unset exactly if no word before the strand has it.
use Rattle.std.proofs.Common.{◌≡◌, ◌↔◌, ℕ, ◌+◌, ◌*◌, ◌<◌}
use Rattle.std.specs.Int.{bit_at}
use Rattle.definitions_blocks.specs.Packed.{word_bit}
use Rattle.strand_pack.proofs.widths.bits_of_line.Given as goal

abbrev pub invariant-loop-strand : goal.invariant-loop-strand
invariant-loop-strand l = (bit : ℕ) → bit < 64 → (bit_at l.all bit ≡ 0) ↔ ((s : ℕ) → s < l.strand → word_bit l.packed (l.line * 16 + s) bit ≡ 0)
