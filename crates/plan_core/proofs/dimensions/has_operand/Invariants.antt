-- what is left tells the answer
use Rattle.std.proofs.Common.{◌≡◌, drop}
use Rattle.std.specs.Prelude.{◌==◌}
use Rattle.std.specs.List.{list_any}
use Rattle.query_bind.specs.LawfulBindings.{operands}
use Rattle.plan_core.proofs.dimensions.has_operand.Given as goal

abbrev pub invariant-loop-sum : goal.invariant-loop-sum
invariant-loop-sum l = list_any (λ sum. list_any (λ column. column.table == l.table) (operands sum)) (drop l.sum-index l.sums) ≡ list_any (λ sum. list_any (λ column. column.table == l.table) (operands sum)) l.sums
