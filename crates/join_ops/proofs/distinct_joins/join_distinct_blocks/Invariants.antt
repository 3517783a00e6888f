-- the pairs of the blocks so far were handed over
use Rattle.std.proofs.Common.{◌≡◌, ◌+◌, ◌*◌, ◌≤◌, length, take}
use Rattle.definitions_blocks.specs.Blocks.{block_values}
use Rattle.join_ops.specs.Joins.{lefts_from, rights_from}
use Rattle.join_ops.proofs.distinct_joins.join_distinct_blocks.Given as goal

abbrev pub invariant-loop-number : goal.invariant-loop-number
invariant-loop-number g l = record {
  kept : g.S.BlockSource.list l.probe ≡ g.S.BlockSource.list l.fn.probe;
  to_left : g.A.Emit.pushed l.left (lefts_from (g.T.FirstLinks.keys l.table) 0 (take (l.number * block_values) (g.S.BlockSource.list l.fn.probe)));
  to_right : g.B.Emit.pushed l.right (rights_from (g.T.FirstLinks.keys l.table) (take (l.number * block_values) (g.S.BlockSource.list l.fn.probe)));
  left_frame : g.A.Emit.frame l.left ≡ g.A.Emit.frame l.fn.left;
  right_frame : g.B.Emit.frame l.right ≡ g.B.Emit.frame l.fn.right;
  later : l.fn.steps ≤ l.steps;
  steps : l.steps ≤ l.fn.steps + l.number + 1 * length (take (l.number * block_values) (g.S.BlockSource.list l.fn.probe));
}
