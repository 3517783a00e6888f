-- the values at the places so far
use Rattle.std.proofs.Common.{◌≡◌, map, slice_index, take, length}
use Rattle.column_core.proofs.gathers.Gather.values.Given as goal

abbrev pub invariant-loop-index : goal.invariant-loop-index
invariant-loop-index g l = record {
  found : take l.index l.found ≡ map (λ place. slice_index l.fn.self place) (take l.index l.places);
  length : length l.found ≡ length l.fn.found;
  list : l.self ≡ l.fn.self;
}
