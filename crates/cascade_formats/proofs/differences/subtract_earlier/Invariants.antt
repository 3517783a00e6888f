-- The differences so far are to the first value, and then to the value that many places before.
use Rattle.std.proofs.Common.{◌≡◌, ℕ, ◌-◌, ◌<◌, ◌≤◌, get_or}
use Rattle.definitions_blocks.specs.Differences.{difference}
use Rattle.cascade_formats.proofs.differences.subtract_earlier.Given as goal

abbrev pub invariant-loop-place : goal.invariant-loop-place
invariant-loop-place g l = (k : ℕ) → k < l.place → get_or l.into k 0 ≡ difference (get_or l.values k 0) l.base

abbrev pub invariant-loop-place-2 : goal.invariant-loop-place-2
invariant-loop-place-2 g l = record {
  early : (k : ℕ) → k < g.row.LAG → get_or l.into k 0 ≡ difference (get_or l.values k 0) l.base;
  late : (k : ℕ) → g.row.LAG ≤ k → k < l.place → get_or l.into k 0 ≡ difference (get_or l.values k 0) (get_or l.values (k - g.row.LAG) 0);
}
