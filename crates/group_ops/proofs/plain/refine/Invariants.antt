-- what was found, and what the pairs left will give, make up the whole
use Rattle.std.proofs.Common.{◌≡◌, ◌++◌, [], drop}
use Rattle.definitions_operators.proofs.GroupWords.{numbers_from, new_places}
use Rattle.group_ops.specs.Pairs.{same_pair, pairs_within}
use Rattle.group_ops.proofs.plain.refine.Given as goal

abbrev pub invariant-loop-row : goal.invariant-loop-row
invariant-loop-row l = record {
  ids : l.ids.items ++ numbers_from same_pair l.table (pairs_within (drop l.row l.before) (drop l.row l.values)) ≡ numbers_from same_pair [] (pairs_within l.before l.values);
  extents : l.extents.items ++ new_places same_pair l.table l.row (pairs_within (drop l.row l.before) (drop l.row l.values)) ≡ new_places same_pair [] 0 (pairs_within l.before l.values);
}
