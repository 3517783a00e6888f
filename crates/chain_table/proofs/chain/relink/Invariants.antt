-- the entries so far are linked
use Rattle.std.proofs.Common.{◌≡◌, length, take}
use Rattle.chain_table.specs.Buckets.{IsChained}
use Rattle.chain_table.proofs.chain.relink.Given as goal

abbrev pub invariant-loop-entry : goal.invariant-loop-entry
invariant-loop-entry l = record {
  size : length l.heads ≡ length l.fn.heads;
  long : length l.older ≡ length l.fn.older;
  links : IsChained l.mixer l.shift l.heads (take l.entry l.keys) (take l.entry l.keys) (take l.entry l.older) (length l.keys);
}
