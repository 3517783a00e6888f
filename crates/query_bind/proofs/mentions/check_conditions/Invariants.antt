use Rattle.std.proofs.Common.{◌≡◌, drop}
use Rattle.std.specs.List.{flat_map}
use Rattle.query_text.specs.Views.{conditions_view}
use Rattle.query_bind.specs.Binding.{condition_words, are_of_from}
use Rattle.query_bind.proofs.mentions.check_conditions.Given as goal

-- the conditions that are left decide
abbrev pub invariant-loop-condition : goal.invariant-loop-condition
invariant-loop-condition l =
    are_of_from l.index l.tables (flat_map condition_words (conditions_view l.conditions))
    ≡ are_of_from l.index l.tables (flat_map condition_words (drop l.condition-index (conditions_view l.conditions)))
