-- what was found, and what the values left will give, make up the whole
use Rattle.std.proofs.Common.{◌≡◌, ◌+◌, ◌≤◌, ◌++◌, length, drop}
use Rattle.std.specs.List.{fold}
use Rattle.definitions_operators.specs.Groups.{with_item}
use Rattle.definitions_operators.proofs.GroupWords.{numbers_from, new_places}
use Rattle.group_ops.specs.Pairs.{same_pair, pairs_of}
use Rattle.group_ops.proofs.rows.number_values.Given as goal

abbrev pub invariant-loop-value : goal.invariant-loop-value
invariant-loop-value l = record {
  ids : l.ids ++ numbers_from same_pair l.table (pairs_of (drop l.value-index l.values)) ≡ numbers_from same_pair l.fn.table (pairs_of l.values);
  extents : l.extents ++ new_places same_pair l.table l.place (pairs_of (drop l.value-index l.values)) ≡ new_places same_pair l.fn.table l.first (pairs_of l.values);
  seen : fold (with_item same_pair) l.table (pairs_of (drop l.value-index l.values)) ≡ fold (with_item same_pair) l.fn.table (pairs_of l.values);
  ids_length : length l.ids ≡ l.value-index;
  extents_length : length l.extents ≤ l.value-index;
  place : l.place ≡ l.first + l.value-index;
}
