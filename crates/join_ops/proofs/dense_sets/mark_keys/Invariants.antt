-- the keys so far are marked
use Rattle.std.proofs.Common.{◌≡◌, ◌-◌, ◌++◌, length, take}
use Rattle.std.specs.Prelude.{slice_index}
use Rattle.join_ops.specs.KeySets.{marked, HaveSameKeys}
use Rattle.join_ops.proofs.dense_sets.mark_keys.Given as goal

abbrev pub invariant-loop-key : goal.invariant-loop-key
invariant-loop-key l = record {
  kept : length l.marks ≡ length l.fn.marks;
  last : slice_index l.marks (length l.fn.marks - 1) ≡ 0;
  keys : HaveSameKeys (marked l.low l.marks) (marked l.low l.fn.marks ++ take l.key-index l.keys);
}
