-- Zeros are counted, at most one a value; no value so far is above the bits.
use Rattle.std.proofs.Common.{◌≡◌, ℕ, ◌<◌, ◌≤◌, get_or}
use Rattle.cascade_formats.proofs.references.zeros_and_bits.Given as goal

abbrev pub invariant-loop-value : goal.invariant-loop-value
invariant-loop-value l = record {
  few : l.zeros ≤ l.value-index;
  some : l.zeros ≡ 0 → (k : ℕ) → k < l.value-index → 0 < get_or l.values k 0;
  none : ((k : ℕ) → k < l.value-index → 0 < get_or l.values k 0) → l.zeros ≡ 0;
  each : (k : ℕ) → k < l.value-index → get_or l.values k 0 ≤ l.bits;
}
