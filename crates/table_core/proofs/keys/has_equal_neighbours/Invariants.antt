use Rattle.std.proofs.Common.{◌≡◌, ◌+◌, ◌<◌, ℕ, get_or}
use Rattle.table_core.proofs.keys.has_equal_neighbours.Given as goal

-- no neighbours so far are equal
abbrev pub invariant-loop-place : goal.invariant-loop-place
invariant-loop-place l = (k : ℕ) → k + 1 < l.place → get_or l.values k 0 ≡ get_or l.values (k + 1) 0 → ⊥
