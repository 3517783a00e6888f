-- the values at the places so far
use Rattle.std.proofs.Common.{◌≡◌, ◌+◌, ◌≤◌, map, slice_index, take, length}
use Rattle.block_core.proofs.sources.PlaceSource.look_up.Given as goal

abbrev pub invariant-loop-index : goal.invariant-loop-index
invariant-loop-index g l = record {
  found : take l.index l.found ≡ map (λ place. slice_index (g.Self.PlaceSource.list l.fn.self) place) (take l.index l.places);
  room : length l.found ≡ length l.fn.found;
  kept : g.Self.PlaceSource.list l.self ≡ g.Self.PlaceSource.list l.fn.self;
  later : l.fn.steps ≤ l.steps;
  steps : l.steps ≤ l.fn.steps + l.index;
}
