use Rattle.std.proofs.Common.{◌≡◌, ◌+◌, map, drop}
use Rattle.plan_core.specs.Strategies.{each_takes}
use Rattle.plan_core.specs.Views.{operator_view}
use Rattle.plan_core.proofs.strategy_reading.each_takes.Given as goal

-- what is left tells the answer
abbrev pub invariant-loop-place : goal.invariant-loop-place
invariant-loop-place l =
    each_takes 1 (map operator_view l.operators) l.forms ≡ each_takes (l.place + 1) (drop l.place (map operator_view l.operators)) (drop l.place l.forms)
