use Rattle.std.proofs.Common.{◌≡◌, ◌++◌, map, take}
use Rattle.query_bind.proofs.needs.push_tested.Given as goal

-- the columns before, and those of the conditions so far
abbrev pub invariant-loop-condition : goal.invariant-loop-condition
invariant-loop-condition l = l.columns.items ≡ l.initial.columns.items ++ map (λ condition. condition.column) (take l.condition-index l.conditions)
