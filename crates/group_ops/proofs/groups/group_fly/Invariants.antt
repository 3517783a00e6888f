-- what the blocks so far give was handed over
use Rattle.std.proofs.Common.{◌≡◌, ◌+◌, ◌*◌, ◌≤◌, [], length, take}
use Rattle.std.specs.List.{fold}
use Rattle.definitions_blocks.specs.Blocks.{block_values}
use Rattle.definitions_operators.specs.Groups.{with_item}
use Rattle.definitions_operators.proofs.GroupWords.{numbers_from, new_places}
use Rattle.group_ops.specs.Pairs.{same_pair, pairs_of}
use Rattle.group_ops.proofs.groups.group_fly.Given as goal

abbrev pub invariant-loop-number : goal.invariant-loop-number
invariant-loop-number g l = record {
  kept : g.S.BlockSource.list l.values ≡ g.S.BlockSource.list l.fn.values;
  ids : g.I.Emit.pushed l.ids (numbers_from same_pair [] (pairs_of (take (l.number * block_values) (g.S.BlockSource.list l.fn.values))));
  extents : g.E.Emit.pushed l.extents (new_places same_pair [] 0 (pairs_of (take (l.number * block_values) (g.S.BlockSource.list l.fn.values))));
  seen : l.table ≡ fold (with_item same_pair) [] (pairs_of (take (l.number * block_values) (g.S.BlockSource.list l.fn.values)));
  ids_frame : g.I.Emit.frame l.ids ≡ g.I.Emit.frame l.fn.ids;
  extents_frame : g.E.Emit.frame l.extents ≡ g.E.Emit.frame l.fn.extents;
  later : l.fn.steps ≤ l.steps;
  steps : l.steps ≤ l.fn.steps + l.number + length (take (l.number * block_values) (g.S.BlockSource.list l.fn.values));
}
