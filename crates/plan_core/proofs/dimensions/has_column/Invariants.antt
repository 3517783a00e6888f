-- what is left tells the answer
use Rattle.std.proofs.Common.{◌≡◌, drop}
use Rattle.std.specs.Prelude.{◌==◌}
use Rattle.std.specs.List.{list_any}
use Rattle.plan_core.proofs.dimensions.has_column.Given as goal

abbrev pub invariant-loop-id : goal.invariant-loop-id
invariant-loop-id l = list_any (λ column. column.table == l.table) (drop l.id-index l.columns) ≡ list_any (λ column. column.table == l.table) l.columns
