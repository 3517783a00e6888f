-- the pairs of the values so far were handed over
use Rattle.std.proofs.Common.{◌≡◌, ◌+◌, ◌++◌, ℕ, List, take}
use Rattle.scan_ops.specs.Batches.{HoldsWith}
use Rattle.join_ops.specs.Joins.{lefts_from, rights_from}
use Rattle.join_ops.proofs.joins.join_block.Given as goal

abbrev pub invariant-loop-value : goal.invariant-loop-value
invariant-loop-value g l = record {
  place : l.place ≡ l.first + l.value-index;
  to_left : (list : List ℕ) → HoldsWith (g.A.Emit.pushed l.fn.left) l.fn.lefts list → HoldsWith (g.A.Emit.pushed l.left) l.lefts (list ++ lefts_from l.keys l.first (take l.value-index l.values));
  to_right : (list : List ℕ) → HoldsWith (g.B.Emit.pushed l.fn.right) l.fn.rights list → HoldsWith (g.B.Emit.pushed l.right) l.rights (list ++ rights_from l.keys (take l.value-index l.values));
  left_frame : g.A.Emit.frame l.left ≡ g.A.Emit.frame l.fn.left;
  right_frame : g.B.Emit.frame l.right ≡ g.B.Emit.frame l.fn.right;
}
