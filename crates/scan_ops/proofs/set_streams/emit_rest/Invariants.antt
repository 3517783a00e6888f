-- what was taken, and what is left, are the whole
use Rattle.std.proofs.Common.{◌≡◌, ℕ, ◌+◌, ◌≤◌, List, length}
use Rattle.scan_ops.specs.Batches.{HoldsWith}
use Rattle.scan_ops.specs.Unread.{left_of, IsUnread}
use Rattle.scan_ops.proofs.set_streams.emit_rest.Given as goal

abbrev pub invariant-loop-out : goal.invariant-loop-out
invariant-loop-out g l = record {
  kept : g.S.BlockSource.list l.source ≡ g.S.BlockSource.list l.fn.source;
  unread : IsUnread (g.S.BlockSource.list l.fn.source) l.unread;
  emitted : (whole : List ℕ) → HoldsWith (g.O.Emit.pushed l.fn.out) (left_of (g.S.BlockSource.list l.fn.source) l.fn.unread) whole
      → HoldsWith (g.O.Emit.pushed l.out) (left_of (g.S.BlockSource.list l.fn.source) l.unread) whole;
  frame : g.O.Emit.frame l.out ≡ g.O.Emit.frame l.fn.out;
  later : l.fn.steps ≤ l.steps;
  steps : l.steps + l.fn.unread.next ≤ l.fn.steps + l.unread.next;
}

abbrev pub decreases-loop-out : goal.decreases-loop-out
decreases-loop-out g l = length (left_of (g.S.BlockSource.list l.source) l.unread)
