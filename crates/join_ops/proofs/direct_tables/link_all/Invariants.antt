-- the last places are linked
use Rattle.std.proofs.Common.{◌≡◌, ◌-◌, length}
use Rattle.join_ops.proofs.DirectLaws.{IsDirectFrom}
use Rattle.join_ops.proofs.direct_tables.link_all.Given as goal

abbrev pub invariant-loop-index : goal.invariant-loop-index
invariant-loop-index l = record {
  size : length l.heads ≡ length l.fn.heads;
  direct : IsDirectFrom l.low l.heads l.keys l.next (l.count - l.index);
}
