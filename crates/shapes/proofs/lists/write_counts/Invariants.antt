use Rattle.std.proofs.Common.{◌≡◌, ℕ, ◌/◌, ◌%◌, ◌<◌, get_or}
use Rattle.shapes.proofs.lists.write_counts.Given as goal

-- the values before the place are those of the shape
abbrev pub invariant-loop-place : goal.invariant-loop-place
invariant-loop-place l = (k : ℕ) → k < l.place → get_or l.into k 0 ≡ k / l.times % l.below
