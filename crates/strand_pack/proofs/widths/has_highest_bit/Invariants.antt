-- No value of the rows before this one has the highest bit.
use Rattle.std.proofs.Common.{◌≡◌, ℕ, ◌+◌, ◌-◌, ◌*◌, ◌<◌}
use Rattle.definitions_blocks.specs.Packed.{strand_bit}
use Rattle.strand_pack.proofs.widths.has_highest_bit.Given as goal

abbrev pub invariant-loop-row : goal.invariant-loop-row
invariant-loop-row l = (row : ℕ) → row < l.row → (strand : ℕ) → strand < 16 → strand_bit l.packed strand (row * l.width + (l.width - 1)) ≡ 0
