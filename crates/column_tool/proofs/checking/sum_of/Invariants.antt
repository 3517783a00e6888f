use Rattle.std.proofs.Common.{◌≡◌}
use Rattle.column_tool.proofs.checking.sum_of.Given as goal

-- the cursor stands for the column's list
abbrev pub invariant-loop-number : goal.invariant-loop-number
invariant-loop-number l = l.cursor ≡ l.fn.column.values
