-- The least of the rest and of the least so far is the least; no value so far is above the greatest, which is below what all are below.
use Rattle.std.proofs.Common.{◌≡◌, ℕ, ◌<◌, ◌≤◌, min, drop, length, get_or}
use Rattle.std.specs.Prelude.{fold}
use Rattle.definitions_blocks.specs.Differences.{least_of}
use Rattle.cascade_formats.proofs.references.extremes.Given as goal

abbrev pub invariant-loop-value : goal.invariant-loop-value
invariant-loop-value l = record {
  least : fold min l.least (drop l.value-index l.values) ≡ least_of l.values;
  each : (k : ℕ) → k < l.value-index → get_or l.values k 0 ≤ l.greatest;
  bound : (limit : ℕ) → ((k : ℕ) → k < length l.values → get_or l.values k 0 ≤ limit) → l.greatest ≤ limit;
}
