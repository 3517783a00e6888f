-- the places that stay, and those that the values left will give, are the places of the block
use Rattle.std.proofs.Common.{◌≡◌, ◌+◌, ◌≤◌, ◌++◌, map, take, drop}
use Rattle.definitions_operators.specs.Operators.{has, passing_places}
use Rattle.definitions_operators.proofs.PositionLaws.{places_from}
use Rattle.join_ops.proofs.chained_keys.ChainedKeysPlaceTest.mark.Given as goal

abbrev pub invariant-loop-value : goal.invariant-loop-value
invariant-loop-value g l = record {
  count : l.kept ≤ l.value-index;
  place : l.place ≡ l.first + l.value-index;
  places : take l.kept l.places ++ places_from (has l.self.keys) l.place (drop l.value-index l.values) ≡ map (λ place. l.first + place) (passing_places (has l.self.keys) l.values);
}
