-- no cell so far is too wide
use Rattle.std.proofs.Common.{ℕ, ◌<◌, get_or}
use Rattle.sum_ops.specs.Cells.{limit}
use Rattle.sum_ops.proofs.cells.Sums.check.Given as goal

abbrev pub invariant-loop-group : goal.invariant-loop-group
invariant-loop-group l = (k : ℕ) → k < l.group → get_or l.self k 0 < limit
