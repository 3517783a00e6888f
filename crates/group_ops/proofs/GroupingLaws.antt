-- What one pass over all pairs finds are the groups.
use Rattle.std.proofs.Common.{◌≡◌, ℕ, ◌≤◌, List, [], length, sym, ap, ◌∙◌, arith}
use Rattle.std.proofs.lemmas.List.{length-map}
use Rattle.definitions_operators.specs.Groups.{group, refine}
use Rattle.definitions_operators.proofs.GroupWords.{numbers_from, new_places}
use Rattle.definitions_operators.proofs.GroupLaws.{ids_map, extents_map}
use Rattle.definitions_operators.proofs.GroupPlaceLaws.{group-by_places, refine-by_places}
use Rattle.definitions_operators.proofs.NumberingLaws.{same_pair-equivalence, numbers_from-start, new_places-start, length-numbers_from, length-new_places, length-zip}
use Rattle.group_ops.specs.Pairs.{same_pair, pairs_of, pairs_within}

pub group-ids : (values : List ℕ) → numbers_from same_pair [] (pairs_of values) ≡ (group values).ids
group-ids values =
    numbers_from-start same_pair same_pair-equivalence (pairs_of values) ∙ ids_map same_pair (λ (value : ℕ). (0, value)) values ∙ sym (group-by_places values).1

pub group-extents : (values : List ℕ) → new_places same_pair [] 0 (pairs_of values) ≡ (group values).extents
group-extents values =
    new_places-start same_pair same_pair-equivalence (pairs_of values) ∙ extents_map same_pair (λ (value : ℕ). (0, value)) values ∙ sym (group-by_places values).0

pub refine-ids : (before values : List ℕ) → length before ≡ length values → numbers_from same_pair [] (pairs_within before values) ≡ (refine before values).ids
refine-ids before values same = numbers_from-start same_pair same_pair-equivalence (pairs_within before values) ∙ sym (refine-by_places before values same).1

pub refine-extents : (before values : List ℕ) → length before ≡ length values → new_places same_pair [] 0 (pairs_within before values) ≡ (refine before values).extents
refine-extents before values same = new_places-start same_pair same_pair-equivalence (pairs_within before values) ∙ sym (refine-by_places before values same).0

-- as many ids as rows, and at most as many extents
pub group-ids_few : (values : List ℕ) → length (group values).ids ≤ length values
group-ids_few values =
    omega (arith, ap length (group-ids values), length-numbers_from same_pair [] (pairs_of values), length-map {B = ℕ × ℕ} values (λ (value : ℕ). (0, value)))

pub group-extents_few : (values : List ℕ) → length (group values).extents ≤ length values
group-extents_few values =
    omega (arith, ap length (group-extents values), length-new_places same_pair [] 0 (pairs_of values), length-map {B = ℕ × ℕ} values (λ (value : ℕ). (0, value)))

pub refine-ids_few : (before values : List ℕ) → length before ≡ length values → length (refine before values).ids ≤ length values
refine-ids_few before values same =
    omega (arith, ap length (refine-ids before values same), length-numbers_from same_pair [] (pairs_within before values), length-zip before values same)

pub refine-extents_few : (before values : List ℕ) → length before ≡ length values → length (refine before values).extents ≤ length values
refine-extents_few before values same =
    omega (arith, ap length (refine-extents before values same), length-new_places same_pair [] 0 (pairs_within before values), length-zip before values same)
