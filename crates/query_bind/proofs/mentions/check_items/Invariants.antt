use Rattle.std.proofs.Common.{◌≡◌, drop}
use Rattle.std.specs.List.{flat_map}
use Rattle.query_text.specs.Views.{items_view}
use Rattle.query_bind.specs.Binding.{item_words, are_of_from}
use Rattle.query_bind.proofs.mentions.check_items.Given as goal

-- the items that are left decide
abbrev pub invariant-loop-item : goal.invariant-loop-item
invariant-loop-item l =
    are_of_from l.index l.tables (flat_map item_words (items_view l.items)) ≡ are_of_from l.index l.tables (flat_map item_words (drop l.item-index (items_view l.items)))
