-- the pairs of the places passed were handed over
use Rattle.std.proofs.Common.{◌≡◌, ◌+◌, ◌<◌, ℕ, length}
use Rattle.std.specs.Prelude.{slice_index}
use Rattle.definitions_operators.specs.Operators.{places_of}
use Rattle.scan_ops.specs.Batches.{HoldsWith}
use Rattle.join_ops.specs.Joins.{linked_places}
use Rattle.join_ops.proofs.JoinLaws.{IsPaired}
use Rattle.join_ops.proofs.joins.join_value.Given as goal

abbrev pub invariant-loop-link : goal.invariant-loop-link
invariant-loop-link g l = record {
  here : (place : ℕ) → place + 1 ≡ l.link → (place < length l.keys) × (slice_index l.keys place ≡ l.value);
  paired : IsPaired (HoldsWith (g.A.Emit.pushed l.fn.left) l.fn.lefts) (HoldsWith (g.A.Emit.pushed l.left) l.lefts)
      (HoldsWith (g.B.Emit.pushed l.fn.right) l.fn.rights) (HoldsWith (g.B.Emit.pushed l.right) l.rights) l.place
      (linked_places l.keys l.value l.link) (places_of l.keys l.value);
  left_frame : g.A.Emit.frame l.left ≡ g.A.Emit.frame l.fn.left;
  right_frame : g.B.Emit.frame l.right ≡ g.B.Emit.frame l.fn.right;
}

abbrev pub decreases-loop-link : goal.decreases-loop-link
decreases-loop-link g l = length (linked_places l.keys l.value l.link)
