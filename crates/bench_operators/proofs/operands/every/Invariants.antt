use Rattle.std.proofs.Common.{◌<◌, ◌≤◌, All, length}
use Rattle.bench_operators.proofs.operands.every.Given as goal

-- the rows so far are below the count, and not more than were looked at
abbrev pub invariant-loop-row : goal.invariant-loop-row
invariant-loop-row l = record {
  few : length l.rows.items ≤ l.row;
  below : All (λ row. row < l.fn.count) l.rows.items;
}
