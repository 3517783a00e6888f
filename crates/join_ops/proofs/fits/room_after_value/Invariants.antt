-- the pairs walked, and those left, are all pairs of the value
use Rattle.std.proofs.Common.{◌≡◌, ◌+◌, ◌<◌, ℕ, length}
use Rattle.std.specs.Prelude.{slice_index}
use Rattle.definitions_operators.specs.Operators.{places_of}
use Rattle.join_ops.specs.Joins.{linked_places}
use Rattle.join_ops.proofs.fits.room_after_value.Given as goal

abbrev pub invariant-loop-link : goal.invariant-loop-link
invariant-loop-link l = record {
  here : (place : ℕ) → place + 1 ≡ l.link → (place < length l.keys) × (slice_index l.keys place ≡ l.value);
  count : l.left + length (places_of l.keys l.value) ≡ l.room + length (linked_places l.keys l.value l.link);
}

abbrev pub decreases-loop-link : goal.decreases-loop-link
decreases-loop-link l = length (linked_places l.keys l.value l.link)
