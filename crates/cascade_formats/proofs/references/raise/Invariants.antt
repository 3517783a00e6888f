-- The differences so far are raised, and the rest is as it was.
use Rattle.std.proofs.Common.{◌≡◌, ℕ, ◌<◌, ◌≤◌, get_or}
use Rattle.definitions_blocks.specs.Differences.{wrapped_sum}
use Rattle.cascade_formats.proofs.references.raise.Given as goal

abbrev pub invariant-loop-difference : goal.invariant-loop-difference
invariant-loop-difference l = record {
  done : (k : ℕ) → k < l.difference-index → get_or l.block k 0 ≡ wrapped_sum (get_or l.fn.block k 0) l.base;
  rest : (k : ℕ) → l.difference-index ≤ k → get_or l.block k 0 ≡ get_or l.fn.block k 0;
}
