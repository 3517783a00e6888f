-- the values at the places so far
use Rattle.std.proofs.Common.{◌≡◌, map, slice_index, take, length}
use Rattle.column_core.proofs.columns.Column.words.Given as goal

abbrev pub invariant-loop-index : goal.invariant-loop-index
invariant-loop-index l = record {
  found : take l.index l.found ≡ map (λ place. slice_index l.self.values place) (take l.index l.places);
  length : length l.found ≡ length l.fn.found;
}
