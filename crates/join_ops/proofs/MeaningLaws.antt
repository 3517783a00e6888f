-- The pairs of a join, value by value, are the join's.
use Rattle.std.proofs.Common.{◌≡◌, ◌∙◌, ap, refl, sym, ℕ, zero, suc, ◌+◌, List, ◌++◌, length, map}
use Rattle.std.specs.Prelude.{flat_map, slice_index}
use Rattle.std.specs.List.{range_with_len}
use Rattle.std.proofs.lemmas.List.{length-map, map-id}
use Rattle.definitions_operators.specs.Operators.{places, places_of, join}
use Rattle.definitions_operators.proofs.MapLaws.{map-map, map-flat_map, flat_map-each, read-places}
use Rattle.join_ops.specs.Joins.{left_places, right_places, lefts_of, lefts_from, rights_from}

lefts-range : (keys : List ℕ) (f : ℕ → ℕ) (n first : ℕ) → flat_map (λ place. lefts_of place (places_of keys (f place))) (range_with_len first n) ≡ lefts_from keys first (map f (range_with_len first n))
lefts-range keys f zero first = refl
lefts-range keys f (suc n) first = ap (λ (l : List ℕ). lefts_of first (places_of keys (f first)) ++ l) (lefts-range keys f n (first + 1))

rights-range : (keys : List ℕ) (f : ℕ → ℕ) (n first : ℕ) → flat_map (λ place. places_of keys (f place)) (range_with_len first n) ≡ rights_from keys (map f (range_with_len first n))
rights-range keys f zero first = refl
rights-range keys f (suc n) first = ap (λ (l : List ℕ). places_of keys (f first) ++ l) (rights-range keys f n (first + 1))

pub lefts-are : (values keys : List ℕ) → left_places values keys ≡ lefts_from keys 0 values
lefts-are values keys =
    let at : ℕ → ℕ = λ place. slice_index values place in
    map-flat_map (λ (pair : ℕ × ℕ). pair.0) (λ place. map (λ key. (place, key)) (places_of keys (at place))) (places (length values))
    ∙ flat_map-each (λ place. map (λ (pair : ℕ × ℕ). pair.0) (map (λ key. (place, key)) (places_of keys (at place)))) (λ place. lefts_of place (places_of keys (at place)))
    (λ place. map-map (λ (pair : ℕ × ℕ). pair.0) (λ key. (place, key)) (places_of keys (at place))) (places (length values))
    ∙ lefts-range keys at (length values) 0
    ∙ ap (lefts_from keys 0) (read-places 0 values)

pub rights-are : (values keys : List ℕ) → right_places values keys ≡ rights_from keys values
rights-are values keys =
    let at : ℕ → ℕ = λ place. slice_index values place in
    map-flat_map (λ (pair : ℕ × ℕ). pair.1) (λ place. map (λ key. (place, key)) (places_of keys (at place))) (places (length values))
    ∙ flat_map-each (λ place. map (λ (pair : ℕ × ℕ). pair.1) (map (λ key. (place, key)) (places_of keys (at place)))) (λ place. places_of keys (at place))
    (λ place. map-map (λ (pair : ℕ × ℕ). pair.1) (λ key. (place, key)) (places_of keys (at place)) ∙ map-id (places_of keys (at place))) (places (length values))
    ∙ rights-range keys at (length values) 0
    ∙ ap (rights_from keys) (read-places 0 values)

-- how many pairs there are
pub pairs-count : (values keys : List ℕ) → length (join values keys) ≡ length (rights_from keys values)
pairs-count values keys = sym (length-map (join values keys) (λ (pair : ℕ × ℕ). pair.1)) ∙ ap length (rights-are values keys)
