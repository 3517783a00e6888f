-- the keys so far were added
use Rattle.std.proofs.Common.{◌≡◌, ◌+◌, ◌≤◌, ◌++◌, length, take}
use Rattle.join_ops.specs.KeySets.{HaveSameKeys}
use Rattle.join_ops.proofs.chained_keys.ChainedKeys.add_all.Given as goal

abbrev pub invariant-loop-key : goal.invariant-loop-key
invariant-loop-key l = record {
  keys : HaveSameKeys l.self.keys (l.fn.self.keys ++ take l.key-index l.keys);
  few : length l.self.keys ≤ length l.fn.self.keys + l.key-index;
  room : l.self.room ≡ l.fn.self.room;
}
