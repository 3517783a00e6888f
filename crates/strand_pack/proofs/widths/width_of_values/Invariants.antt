-- `all` is no less than the values so far, and below each power of two that they are below.
use Rattle.std.proofs.Common.{ℕ, ◌^◌, ◌<◌, ◌≤◌, get_or}
use Rattle.strand_pack.proofs.widths.width_of_values.Given as goal

abbrev pub invariant-loop-value : goal.invariant-loop-value
invariant-loop-value l = record {
  each : (k : ℕ) → k < l.value-index → get_or l.values k 0 ≤ l.all;
  least : (v : ℕ) → ((k : ℕ) → k < l.value-index → get_or l.values k 0 < 2 ^ v) → l.all < 2 ^ v;
}
