-- what was found, and what the values left will give, make up the whole
use Rattle.std.proofs.Common.{◌≡◌, ◌++◌, [], drop}
use Rattle.definitions_operators.proofs.GroupWords.{numbers_from, new_places}
use Rattle.group_ops.specs.Pairs.{same_pair, pairs_of}
use Rattle.group_ops.proofs.plain.group.Given as goal

abbrev pub invariant-loop-row : goal.invariant-loop-row
invariant-loop-row l = record {
  ids : l.ids.items ++ numbers_from same_pair l.table (pairs_of (drop l.row l.values)) ≡ numbers_from same_pair [] (pairs_of l.values);
  extents : l.extents.items ++ new_places same_pair l.table l.row (pairs_of (drop l.row l.values)) ≡ new_places same_pair [] 0 (pairs_of l.values);
}
