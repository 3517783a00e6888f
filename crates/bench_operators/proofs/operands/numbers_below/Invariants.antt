use Rattle.std.proofs.Common.{◌≡◌, ◌<◌, All, length}
use Rattle.bench_operators.proofs.operands.numbers_below.Given as goal

-- so many numbers were drawn, each below the bound
abbrev pub invariant-loop-place : goal.invariant-loop-place
invariant-loop-place l = record {
  count : length l.numbers.items ≡ l._place;
  below : All (λ number. number < l.fn.below) l.numbers.items;
}
