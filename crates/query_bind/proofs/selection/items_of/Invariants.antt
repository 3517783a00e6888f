use Rattle.std.proofs.Common.{◌≡◌, ◌≤◌, drop, length}
use Rattle.query_text.specs.Views.{items_view}
use Rattle.query_bind.specs.Binding.{next_item, items_of}
use Rattle.query_bind.specs.Steps.{accumulate}
use Rattle.query_bind.specs.Views.{selected_view}
use Rattle.query_bind.proofs.selection.items_of.Given as goal

-- what the rest adds to the items so far, of which there are no fewer than sums
abbrev pub invariant-loop-item : goal.invariant-loop-item
invariant-loop-item l = record {
  count : length l.selected.sums.items ≤ l.item-index;
  whole : items_of l.index l.groups (items_view l.items) ≡ accumulate (next_item l.index l.groups) (selected_view l.selected) (drop l.item-index (items_view l.items));
}
