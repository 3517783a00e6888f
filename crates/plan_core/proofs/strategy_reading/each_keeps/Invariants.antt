use Rattle.std.proofs.Common.{◌≡◌, map}
use Rattle.toml.specs.View.{table_view}
use Rattle.plan_core.specs.Strategies.{in_order, each_keeps}
use Rattle.plan_core.proofs.StrategyLemmas.{entry_view}
use Rattle.plan_core.proofs.strategy_reading.each_keeps.Given as goal

-- what the entries that are left give is what the whole table gives
abbrev pub invariant-loop-key : goal.invariant-loop-key
invariant-loop-key l =
    (goal.iterator-loop-key).can_next l.key-iterator ×
    (goal.iterator-loop-key).is_finite l.key-iterator ×
    (each_keeps (in_order (table_view l.keys)) ≡ each_keeps (map entry_view l.key-iterator))
