-- there is room for the keys to come
use Rattle.std.proofs.Common.{◌≡◌, length}
use Rattle.chain_table.proofs.chain.tests.keys_that_crowd_are_told_apart_by_another_mixer.Given as goal

abbrev pub invariant-loop-factor : goal.invariant-loop-factor
invariant-loop-factor g l = record {
  room : l.chain.room ≡ 100;
  count : length l.chain.keys ≡ l.factor;
}
