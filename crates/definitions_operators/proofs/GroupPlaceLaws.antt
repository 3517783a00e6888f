-- Groups by places are those by items.
use Rattle.std.proofs.Common.{◌≡◌, ℕ, zero, suc, ◌<◌, ◌≤◌, Bool, true, not, List, [], ◌∷◌, length, map, take, get_or, refl, sym, ap, ap₂, ◌∙◌, subst, arith}
use Rattle.std.specs.Prelude.{zip, nat_eq}
use Rattle.std.specs.List.{list_any, position_or_len, range_with_len}
use Rattle.std.specs.Cmp.{IsEquivalence, nat_eq_equiv}
use Rattle.std.proofs.lemmas.List.{drop_more, get_or-take, length-take-le}
use Rattle.std.proofs.lemmas.List.FromFn.{fill_by_all}
use Rattle.std.proofs.lemmas.List.Sums.{passes_at_first}
use Rattle.definitions_operators.specs.Groups.{distinct, first_places, group_numbers, one_value, one_pair}
use Rattle.definitions_operators.proofs.GroupWords.{place_in, ids_of, extents_of, same_pair, is_new, occurs_first}
use Rattle.definitions_operators.proofs.GroupLaws.{Each, Each-weaker, map_map, map_agree, any_map, any_agree, place_map, place_agree, place_within, distinct-among, filter_each}
use Rattle.definitions_operators.proofs.NumberingLaws.{same_pair-equivalence, length-zip}
use Rattle.definitions_operators.proofs.OccurrenceLaws.{extents-are, range_below}

module _ {A : Type 0} (same : A → A → Bool) (o : IsEquivalence same) (items : List A) (d : A) (like : ℕ → ℕ → Bool)
    (agrees : (a b : ℕ) → a < length items → b < length items → like a b ≡ same (get_or items a d) (get_or items b d)) where
  abbrev item : ℕ → A
  item place = get_or items place d

  take_reads : (k : ℕ) → k ≤ length items → take k items ≡ map item (range_with_len 0 k)
  take_reads k h = fill_by_all item (take k items) k d (length-take-le k items h) (λ (i : ℕ) (l : i < k). get_or-take k items i d l)

  all_reads : items ≡ map item (range_with_len 0 (length items))
  all_reads = fill_by_all item items (length items) d refl (λ (i : ℕ) (l : i < length items). refl)

  below_of : (k : ℕ) → Each (λ (e : ℕ). e < k) (range_with_len 0 k)
  below_of k = subst (λ (end : ℕ). Each (λ (e : ℕ). e < end) (range_with_len 0 k)) (omega arith) (range_below 0 k)

  first_test : (k : ℕ) → k < length items → not (list_any (λ earlier. like earlier k) (range_with_len 0 k)) ≡ occurs_first same items k
  first_test k h =
      ap not (any_agree (λ (e : ℕ). like e k) (λ (e : ℕ). same (item k) (item e)) (range_with_len 0 k)
      (Each-weaker (λ (e : ℕ). e < k) (λ (e : ℕ). like e k ≡ same (item k) (item e))
      (λ (e : ℕ) (l : e < k). agrees e k (omega arith) h ∙ o.symm (item e) (item k)) (range_with_len 0 k) (below_of k))
      ∙ sym (any_map (same (item k)) item (range_with_len 0 k))
      ∙ ap (list_any (same (item k))) (sym (take_reads k (omega arith))))
      ∙ sym (ap (is_new same (take k items)) (drop_more items k d h))

  pub first_places-are : first_places like (length items) ≡ extents_of same items
  first_places-are =
      filter_each (λ (k : ℕ). not (list_any (λ earlier. like earlier k) (range_with_len 0 k))) (occurs_first same items) (range_with_len 0 (length items))
      (Each-weaker (λ (k : ℕ). k < length items) (λ (k : ℕ). not (list_any (λ earlier. like earlier k) (range_with_len 0 k)) ≡ occurs_first same items k)
      (λ (k : ℕ) (h : k < length items). first_test k h) (range_with_len 0 (length items)) (below_of (length items)))
      ∙ sym (extents-are same o items)

  number_at : (p : ℕ) → p < length items → position_or_len (λ first. like first p) (extents_of same items) ≡ place_in same (distinct same items) (item p)
  unfolding extents_of
  number_at p h =
      place_map (λ (f : ℕ). like f p) (place_in same items) (distinct same items)
      ∙ place_agree (λ (x : A). like (place_in same items x) p) (same (item p)) (distinct same items)
      (Each-weaker (λ (x : A). list_any (same x) items ≡ true) (λ (x : A). like (place_in same items x) p ≡ same (item p) x)
      (λ (x : A) (among : list_any (same x) items ≡ true).
      let within : place_in same items x < length items = place_within (same x) items among in
      agrees (place_in same items x) p within h
      ∙ sym (o.congr x (item (place_in same items x)) (item p) (passes_at_first (same x) items d within))
      ∙ o.symm x (item p)) (distinct same items) (distinct-among same o items))

  pub group_numbers-are : group_numbers like (length items) ≡ ids_of same items
  unfolding ids_of
  group_numbers-are =
      ap (λ (firsts : List ℕ). map (λ place. position_or_len (λ first. like first place) firsts) (range_with_len 0 (length items))) first_places-are
      ∙ map_agree (λ (p : ℕ). position_or_len (λ first. like first p) (extents_of same items)) (λ (p : ℕ). place_in same (distinct same items) (item p)) (range_with_len 0 (length items))
      (Each-weaker (λ (p : ℕ). p < length items) (λ (p : ℕ). position_or_len (λ first. like first p) (extents_of same items) ≡ place_in same (distinct same items) (item p))
      (λ (p : ℕ) (h : p < length items). number_at p h) (range_with_len 0 (length items)) (below_of (length items)))
      ∙ sym (map_map (place_in same (distinct same items)) item (range_with_len 0 (length items)))
      ∙ ap (map (place_in same (distinct same items))) (sym all_reads)

-- ---- a column, and pairs

pub group-by_places : (values : List ℕ) → (first_places (one_value values) (length values) ≡ extents_of nat_eq values) × (group_numbers (one_value values) (length values) ≡ ids_of nat_eq values)
group-by_places values = (
  first_places-are nat_eq nat_eq_equiv values 0 (one_value values) (λ (a b : ℕ) (h : a < length values) (k : b < length values). refl),
  group_numbers-are nat_eq nat_eq_equiv values 0 (one_value values) (λ (a b : ℕ) (h : a < length values) (k : b < length values). refl),
)

get_or-zip_pair : (before values : List ℕ) (k : ℕ) → length before ≡ length values → get_or (zip before values) k (0, 0) ≡ (get_or before k 0, get_or values k 0)
get_or-zip_pair [] [] k e = refl
get_or-zip_pair [] (v ∷ values) k e = absurd (omega arith)
get_or-zip_pair (b ∷ before) [] k e = absurd (omega arith)
get_or-zip_pair (b ∷ before) (v ∷ values) zero e = refl
get_or-zip_pair (b ∷ before) (v ∷ values) (suc k) e = get_or-zip_pair before values k (omega arith)

pair_agrees : (before values : List ℕ) → length before ≡ length values → (a b : ℕ) → one_pair before values a b ≡ same_pair (get_or (zip before values) a (0, 0)) (get_or (zip before values) b (0, 0))
pair_agrees before values e a b = sym (ap₂ (λ (x y : ℕ × ℕ). same_pair x y) (get_or-zip_pair before values a e) (get_or-zip_pair before values b e))

pub refine-by_places : (before values : List ℕ) → length before ≡ length values
    → (first_places (one_pair before values) (length values) ≡ extents_of same_pair (zip before values)) × (group_numbers (one_pair before values) (length values) ≡ ids_of same_pair (zip before values))
refine-by_places before values e =
    let pairs : List (ℕ × ℕ) = zip before values in
    let long : length values ≡ length pairs = sym (length-zip before values e) in
    let agrees : (a b : ℕ) → a < length pairs → b < length pairs → one_pair before values a b ≡ same_pair (get_or pairs a (0, 0)) (get_or pairs b (0, 0)) =
    λ (a b : ℕ) (h : a < length pairs) (k : b < length pairs). pair_agrees before values e a b in (
      ap (λ (n : ℕ). first_places (one_pair before values) n) long ∙ first_places-are same_pair same_pair-equivalence pairs (0, 0) (one_pair before values) agrees,
      ap (λ (n : ℕ). group_numbers (one_pair before values) n) long ∙ group_numbers-are same_pair same_pair-equivalence pairs (0, 0) (one_pair before values) agrees,
    )
