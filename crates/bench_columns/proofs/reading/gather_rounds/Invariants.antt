use Rattle.std.proofs.Common.{◌≡◌}
use Rattle.bench_columns.proofs.reading.gather_rounds.Given as goal

-- what is looked up are the column's values
abbrev pub invariant-loop-place : goal.invariant-loop-place
invariant-loop-place g l = l.gather ≡ l.column.values

abbrev pub invariant-loop : goal.invariant-loop
invariant-loop g l = l.gather ≡ l.column.values
