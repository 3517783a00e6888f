-- the last places were entered, the very last first
use Rattle.std.proofs.Common.{◌≡◌, ◌-◌, drop, length}
use Rattle.std.specs.Prelude.{reverse}
use Rattle.join_ops.proofs.chain_tables.ChainTable.of.Given as goal

abbrev pub invariant-loop-index : goal.invariant-loop-index
invariant-loop-index l = record {
  keys : l.chain.keys ≡ reverse (drop (l.count - l.index) l.keys);
  room : l.chain.room ≡ length l.keys;
}
