-- the pairs appended, and those left, are all pairs of the value
use Rattle.std.proofs.Common.{◌≡◌, ◌+◌, ◌<◌, ◌++◌, ℕ, length}
use Rattle.std.specs.Prelude.{slice_index}
use Rattle.definitions_operators.specs.Operators.{places_of}
use Rattle.join_ops.specs.Joins.{lefts_of, linked_places}
use Rattle.join_ops.proofs.plain.append_pairs.Given as goal

abbrev pub invariant-loop-link : goal.invariant-loop-link
invariant-loop-link l = record {
  here : (place : ℕ) → place + 1 ≡ l.link → (place < length l.keys) × (slice_index l.keys place ≡ l.value);
  left : l.lefts.items ++ lefts_of l.place (linked_places l.keys l.value l.link) ≡ l.fn.lefts.items ++ lefts_of l.place (places_of l.keys l.value);
  right : l.rights.items ++ linked_places l.keys l.value l.link ≡ l.fn.rights.items ++ places_of l.keys l.value;
}

abbrev pub decreases-loop-link : goal.decreases-loop-link
decreases-loop-link l = length (linked_places l.keys l.value l.link)
