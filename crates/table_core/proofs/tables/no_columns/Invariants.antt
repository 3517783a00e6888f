use Rattle.std.proofs.Common.{◌≡◌, None, replicate}
use Rattle.table_core.proofs.tables.no_columns.Given as goal

-- as many as were pushed
abbrev pub invariant-loop : goal.invariant-loop
invariant-loop l = l.columns.items ≡ replicate l.counter None
