-- what was appended are the places of the values so far
use Rattle.std.proofs.Common.{◌≡◌, ◌-◌, ◌≤◌, length, take}
use Rattle.definitions_operators.specs.Operators.{passing_places}
use Rattle.join_ops.proofs.plain.places_in.Given as goal

abbrev pub invariant-loop-first : goal.invariant-loop-first
invariant-loop-first g l = record {
  within : l.first ≤ length l.values;
  places : l.places.items ≡ passing_places (g.T.PlaceTest.passes l.test) (take l.first l.values);
}

abbrev pub decreases-loop-first : goal.decreases-loop-first
decreases-loop-first g l = length l.values - l.first
