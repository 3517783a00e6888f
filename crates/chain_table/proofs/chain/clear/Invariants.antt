-- the links so far name nothing
use Rattle.std.proofs.Common.{◌≡◌, ℕ, ◌<◌, length}
use Rattle.std.specs.Prelude.{slice_index}
use Rattle.chain_table.proofs.chain.clear.Given as goal

abbrev pub invariant-loop-index : goal.invariant-loop-index
invariant-loop-index l = record {
  size : length l.links ≡ length l.fn.links;
  none : (bucket : ℕ) → bucket < l.index → slice_index l.links bucket ≡ 0;
}
