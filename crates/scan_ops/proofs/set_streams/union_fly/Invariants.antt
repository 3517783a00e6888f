-- what was taken, and the union of what is left, are the whole
use Rattle.std.proofs.Common.{◌≡◌, ◌+◌, ◌≤◌, length}
use Rattle.definitions_operators.specs.Operators.{union}
use Rattle.definitions_operators.specs.Positions.{Rises}
use Rattle.scan_ops.specs.Batches.{HoldsWith}
use Rattle.scan_ops.specs.Unread.{left_of, IsUnread}
use Rattle.scan_ops.proofs.set_streams.union_fly.Given as goal

abbrev pub invariant-loop-unread_left : goal.invariant-loop-unread_left
invariant-loop-unread_left g l = record {
  kept_left : g.A.BlockSource.list l.left ≡ g.A.BlockSource.list l.fn.left;
  kept_right : g.B.BlockSource.list l.right ≡ g.B.BlockSource.list l.fn.right;
  unread_left : IsUnread (g.A.BlockSource.list l.fn.left) l.unread_left;
  unread_right : IsUnread (g.B.BlockSource.list l.fn.right) l.unread_right;
  up_left : Rises (left_of (g.A.BlockSource.list l.fn.left) l.unread_left);
  up_right : Rises (left_of (g.B.BlockSource.list l.fn.right) l.unread_right);
  room : length l.room ≡ 1024;
  emitted : HoldsWith (g.O.Emit.pushed l.out)
      (union (left_of (g.A.BlockSource.list l.fn.left) l.unread_left) (left_of (g.B.BlockSource.list l.fn.right) l.unread_right))
      (union (g.A.BlockSource.list l.fn.left) (g.B.BlockSource.list l.fn.right));
  frame : g.O.Emit.frame l.out ≡ g.O.Emit.frame l.fn.out;
  later : l.fn.steps ≤ l.steps;
  steps : l.steps ≤ l.fn.steps + l.unread_left.next + l.unread_right.next;
}

abbrev pub decreases-loop-unread_left : goal.decreases-loop-unread_left
decreases-loop-unread_left g l = length (left_of (g.A.BlockSource.list l.left) l.unread_left) + length (left_of (g.B.BlockSource.list l.right) l.unread_right)
