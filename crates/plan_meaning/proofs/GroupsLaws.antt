-- Groups are distinct, each row has its own among them, and they stand as they first occur.
use Rattle.std.proofs.Common.{◌≡◌, ℕ, true, List, [], ◌∷◌, map, get_or, refl, sym, ap, ◌∙◌, subst, inl, inr}
use Rattle.std.specs.Prelude.{Contains}
use Rattle.std.specs.List.{list_any}
use Rattle.std.proofs.lemmas.Bool.{or_cases, false≢true}
use Rattle.std.proofs.lemmas.List.{length-map}
use Rattle.std.proofs.lemmas.List.Sums.{passes_at_first}
use Rattle.definitions_operators.specs.Groups.{distinct, first_places, tuple_of, same_tuple, groups_of}
use Rattle.definitions_operators.proofs.ListLaws.{Contains-head, Contains-cons}
use Rattle.definitions_operators.proofs.GroupWords.{place_in, extents_of}
use Rattle.definitions_operators.proofs.GroupLaws.{Each-weaker, map_map, map_agree, place_within, distinct-all, distinct-apart, distinct-among, same_tuple-equivalence, same_tuple-true}
use Rattle.definitions_operators.proofs.OccurrenceLaws.{All-from_each}
use Rattle.definitions_operators.proofs.GroupPlaceLaws.{first_places-are}
use Rattle.plan_meaning.specs.Law.{are_alike, GroupsAreDistinct}
use Rattle.plan_meaning.proofs.JoinStepLaws.{All-unmap}

among : (tuple : List ℕ) (groups : List (List ℕ)) → list_any (same_tuple tuple) groups ≡ true → Contains groups tuple
among tuple [] h = absurd (false≢true h)
among tuple (group ∷ groups) h =
    elim (or_cases (same_tuple tuple group) (list_any (same_tuple tuple) groups) h) [
      | inl here ↦ subst (λ t. Contains (group ∷ groups) t) (sym (same_tuple-true tuple group here)) (Contains-head group groups)
      | inr later ↦ Contains-cons group groups tuple (among tuple groups later)
    ]

-- what stands where the distinct items occur first
first_items : (tuples : List (List ℕ)) → map (λ place. get_or tuples place []) (extents_of same_tuple tuples) ≡ distinct same_tuple tuples
unfolding extents_of
first_items tuples =
    let groups : List (List ℕ) = distinct same_tuple tuples in
    map_map (λ place. get_or tuples place []) (place_in same_tuple tuples) groups
    ∙ map_agree (λ tuple. get_or tuples (place_in same_tuple tuples tuple) []) (λ tuple. tuple) groups
    (Each-weaker (λ tuple. list_any (same_tuple tuple) tuples ≡ true) (λ tuple. get_or tuples (place_in same_tuple tuples tuple) [] ≡ tuple)
    (λ tuple h. sym (same_tuple-true tuple (get_or tuples (place_in same_tuple tuples tuple) []) (passes_at_first (same_tuple tuple) tuples [] (place_within (same_tuple tuple) tuples h))))
    groups (distinct-among same_tuple same_tuple-equivalence tuples))
    ∙ Rattle.std.proofs.lemmas.List.map-id groups

pub groups_are_distinct : GroupsAreDistinct
groups_are_distinct columns rows =
    let tuples : List (List ℕ) = map (tuple_of columns) rows in
    let groups : List (List ℕ) = groups_of columns rows in
    record {
      differ = distinct-apart same_tuple same_tuple-equivalence tuples;
      all = All-unmap (λ tuple. Contains groups tuple) (tuple_of columns) rows
          (All-from_each (λ tuple. Contains groups tuple) tuples
          (Each-weaker (λ tuple. list_any (same_tuple tuple) groups ≡ true) (λ tuple. Contains groups tuple) (λ tuple h. among tuple groups h) tuples
          (distinct-all same_tuple same_tuple-equivalence tuples)));
      first = sym (first_items tuples)
          ∙ ap (map (λ place. get_or tuples place []))
          (sym (ap (first_places (are_alike columns rows)) (sym (length-map rows (tuple_of columns)))
          ∙ first_places-are same_tuple same_tuple-equivalence tuples [] (are_alike columns rows) (λ a b h k. refl)));
    }
