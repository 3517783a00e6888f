use Rattle.std.proofs.Common.{◌≡◌, drop}
use Rattle.query_text.specs.Views.{conditions_view}
use Rattle.query_bind.specs.Binding.{next_condition, conditions_of}
use Rattle.query_bind.specs.Steps.{accumulate}
use Rattle.query_bind.specs.Views.{parted_view}
use Rattle.query_bind.proofs.conditions.conditions_of.Given as goal

-- what the rest adds to the conditions so far
abbrev pub invariant-loop-condition : goal.invariant-loop-condition
invariant-loop-condition l = conditions_of l.index l.fact (conditions_view l.conditions) ≡ accumulate (next_condition l.index l.fact) (parted_view l.sorted) (drop l.condition-index (conditions_view l.conditions))
