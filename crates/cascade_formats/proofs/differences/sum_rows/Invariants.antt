-- What is summed is each difference and the value a row earlier, or the base; the rest is as it was.
use Rattle.std.proofs.Common.{◌≡◌, ℕ, ◌+◌, ◌*◌, ◌<◌, ◌≤◌, get_or}
use Rattle.definitions_blocks.specs.Differences.{wrapped_sum}
use Rattle.cascade_formats.proofs.differences.sum_rows.Given as goal

abbrev pub invariant-loop-place : goal.invariant-loop-place
invariant-loop-place g l = record {
  early : (k : ℕ) → k < l.place → get_or l.block k 0 ≡ wrapped_sum (get_or l.fn.block k 0) l.base;
  rest : (k : ℕ) → l.place ≤ k → get_or l.block k 0 ≡ get_or l.fn.block k 0;
}

abbrev pub invariant-loop-group : goal.invariant-loop-group
invariant-loop-group g l = record {
  early : (k : ℕ) → k < 16 → get_or l.block k 0 ≡ wrapped_sum (get_or l.fn.block k 0) l.base;
  late : (k : ℕ) → k < l.group * g.row.L → get_or l.block (16 + k) 0 ≡ wrapped_sum (get_or l.fn.block (16 + k) 0) (get_or l.block k 0);
  rest : (k : ℕ) → 16 + l.group * g.row.L ≤ k → get_or l.block k 0 ≡ get_or l.fn.block k 0;
}
