use Rattle.std.proofs.Common.{◌≡◌, ◌++◌, map, drop}
use Rattle.plan_core.specs.Strategies.{form_or_fly}
use Rattle.plan_core.specs.Views.{operator_view}
use Rattle.plan_core.proofs.strategy_reading.default_forms.Given as goal

-- the forms so far, and those of the operators that are left, make up the whole
abbrev pub invariant-loop-operator : goal.invariant-loop-operator
invariant-loop-operator l =
    l.forms.items ++ map (form_or_fly l.default) (map operator_view (drop l.operator-index l.operators))
    ≡ map (form_or_fly l.default) (map operator_view l.operators)
