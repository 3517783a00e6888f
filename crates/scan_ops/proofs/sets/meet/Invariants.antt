-- what is written, and what the numbers that are left give, are the whole
use Rattle.std.proofs.Common.{◌≡◌, ℕ, ◌+◌, ◌-◌, ◌≤◌, List, ◌++◌, take, drop, length}
use Rattle.definitions_operators.specs.Operators.{intersect}
use Rattle.definitions_operators.specs.Positions.{Rises}
use Rattle.scan_ops.proofs.sets.meet.Given as goal

abbrev pub invariant-loop-used : goal.invariant-loop-used
invariant-loop-used l = record {
  left : l.used.left ≤ length l.left;
  right : l.used.right ≤ length l.right;
  kept_left : l.used.kept ≤ l.used.left;
  kept_right : l.used.kept ≤ l.used.right;
  room : length l.out ≡ length l.initial.out;
  whole : (later others : List ℕ) → Rises (l.left ++ later) → Rises (l.right ++ others)
      → intersect (l.left ++ later) (l.right ++ others) ≡ take l.used.kept l.out ++ intersect (drop l.used.left l.left ++ later) (drop l.used.right l.right ++ others);
}

abbrev pub decreases-loop-used : goal.decreases-loop-used
decreases-loop-used l = (length l.left - l.used.left) + (length l.right - l.used.right)
