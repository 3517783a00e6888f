use Rattle.std.proofs.Common.{◌≡◌, codes, map}
use Rattle.toml.specs.View.{table_view}
use Rattle.plan_core.specs.Strategies.{form_words, in_order, chosen}
use Rattle.plan_core.proofs.StrategyLemmas.{entry_view}
use Rattle.plan_core.proofs.strategy_reading.put_forms.Given as goal

-- what the entries that are left make of the forms so far is what the whole table makes of the first
abbrev pub invariant-loop-key : goal.invariant-loop-key
invariant-loop-key l =
    (goal.iterator-loop-key).can_next l.key-iterator ×
    (goal.iterator-loop-key).is_finite l.key-iterator ×
    (chosen (codes "o") form_words (in_order (table_view l.table)) l.fn.forms ≡ chosen (codes "o") form_words (map entry_view l.key-iterator) l.forms)
