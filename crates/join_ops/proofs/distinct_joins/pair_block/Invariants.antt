-- the pairs of the values so far stand in front
use Rattle.std.proofs.Common.{◌≡◌, ◌+◌, ◌≤◌, length, take}
use Rattle.join_ops.specs.Joins.{lefts_from, rights_from}
use Rattle.join_ops.proofs.distinct_joins.pair_block.Given as goal

abbrev pub invariant-loop-value : goal.invariant-loop-value
invariant-loop-value g l = record {
  count : l.kept ≤ l.value-index;
  place : l.place ≡ l.first + l.value-index;
  left_room : length l.lefts ≡ length l.fn.lefts;
  right_room : length l.rights ≡ length l.fn.rights;
  lefts : take l.kept l.lefts ≡ lefts_from (g.T.FirstLinks.keys l.table) l.first (take l.value-index l.values);
  rights : take l.kept l.rights ≡ rights_from (g.T.FirstLinks.keys l.table) (take l.value-index l.values);
}
