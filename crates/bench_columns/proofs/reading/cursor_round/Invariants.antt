use Rattle.std.proofs.Common.{◌≡◌}
use Rattle.bench_columns.proofs.reading.cursor_round.Given as goal

-- the cursor stands for the column's list
abbrev pub invariant-loop-number : goal.invariant-loop-number
invariant-loop-number g l = l.cursor ≡ l.column.values
