-- what was found, and what the pairs left will give, make up the whole
use Rattle.std.proofs.Common.{◌≡◌, ◌+◌, ◌≤◌, ◌++◌, length, drop}
use Rattle.std.specs.List.{fold}
use Rattle.definitions_operators.specs.Groups.{with_item}
use Rattle.definitions_operators.proofs.GroupWords.{numbers_from, new_places}
use Rattle.group_ops.specs.Pairs.{same_pair, pairs_within}
use Rattle.group_ops.proofs.rows.number_pairs.Given as goal

abbrev pub invariant-loop-row : goal.invariant-loop-row
invariant-loop-row l = record {
  ids : l.ids ++ numbers_from same_pair l.table (pairs_within (drop l.row l.before) (drop l.row l.values)) ≡ numbers_from same_pair l.fn.table (pairs_within l.before l.values);
  extents : l.extents ++ new_places same_pair l.table (l.first + l.row) (pairs_within (drop l.row l.before) (drop l.row l.values))
      ≡ new_places same_pair l.fn.table l.first (pairs_within l.before l.values);
  seen : fold (with_item same_pair) l.table (pairs_within (drop l.row l.before) (drop l.row l.values)) ≡ fold (with_item same_pair) l.fn.table (pairs_within l.before l.values);
  ids_length : length l.ids ≡ l.row;
  extents_length : length l.extents ≤ l.row;
}
