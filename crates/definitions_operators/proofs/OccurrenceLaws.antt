-- Extents are the rising list of the places at which an item occurs first, and an id is the number, within extents, of the first occurrence of the item.
use Rattle.std.proofs.Common.{◌≡◌, ℕ, zero, suc, ◌+◌, Bool, true, false, cond, not, List, [], ◌∷◌, ◌++◌, length, map, take, drop, refl, sym, ap, ap₂, ◌∙◌, subst, arith, append_assoc, length-append}
use Rattle.std.specs.Prelude.{filter, nat_eq, nat_lt, ◌<◌}
use Rattle.std.specs.List.{list_any, range_with_len, AllByRecursion}
use Rattle.std.specs.Cmp.{IsEquivalence}
use Rattle.std.proofs.lemmas.Bool.{cond-true, lt-ltb}
use Rattle.std.proofs.lemmas.List.{take_at, drop_at, length-map}
use Rattle.std.proofs.lemmas.List.Elements.{All-nil, All-cons, All-map}
use Rattle.std.specs.List.{All}
use Rattle.std.proofs.lemmas.List.Kept.{IsStrictlySortedBy-filter}
use Rattle.std.proofs.lemmas.Map.Keys.{IsStrictlyIncreasing-from_sorted}
use Rattle.std.specs.Ordering.{nat_cmp}
use Rattle.std.specs.declared.cmp.Ordering.TheVariants.{Less}
use Rattle.std.specs.List.Sorted.{IsStrictlyIncreasing, IsStrictlySortedBy}
use Rattle.definitions_operators.specs.Groups.{with_item, distinct}
use Rattle.definitions_operators.proofs.GroupWords.{place_in, ids_of, extents_of, is_new, occurs_first, new_place, new_places}
use Rattle.definitions_operators.proofs.GroupLaws.{Each-weaker, map_agree, place_within, place_map, place_agree, distinct_more, distinct-all, distinct-among, any_along, any_of, number_tells}
use Rattle.definitions_operators.proofs.NumberingLaws.{new_places-start}

module _ {A : Type 0} (same : A → A → Bool) (o : IsEquivalence same) where
  same_tests : (a b : Bool) → (a ≡ true → b ≡ true) → (b ≡ true → a ≡ true) → a ≡ b
  same_tests true true f g = refl
  same_tests true false f g = sym (f refl)
  same_tests false true f g = g refl
  same_tests false false f g = refl

  -- an item is among the items exactly if it is among the distinct ones
  pub seen_before : (item : A) (items : List A) → list_any (same item) items ≡ list_any (same item) (distinct same items)
  seen_before item items =
      same_tests (list_any (same item) items) (list_any (same item) (distinct same items))
      (any_along same o item (distinct same items) items (distinct-all same o items))
      (any_along same o item items (distinct same items) (distinct-among same o items))

  one_place : (b : Bool) (n : ℕ) (later : List ℕ) → cond b [] (n ∷ []) ++ later ≡ cond (not b) (n ∷ later) later
  one_place true n later = refl
  one_place false n later = refl

  first_places_from : (before rest : List A)
      → new_places same (distinct same before) (length before) rest ≡ filter (occurs_first same (before ++ rest)) (range_with_len (length before) (length rest))
  first_places_from before [] = refl
  first_places_from before (item ∷ rest) =
      let n = length before in
      let items = before ++ item ∷ rest in
      let regroup : (before ++ item ∷ []) ++ rest ≡ items = append_assoc before (item ∷ []) rest in
      let later : new_places same (with_item same (distinct same before) item) (n + 1) rest ≡ filter (occurs_first same items) (range_with_len (n + 1) (length rest)) =
      ap₂ (λ (seen : List A) (m : ℕ). new_places same seen m rest) (sym (distinct_more same before item)) (sym (length-append before (item ∷ [])))
      ∙ first_places_from (before ++ item ∷ []) rest
      ∙ ap₂ (λ (all : List A) (m : ℕ). filter (occurs_first same all) (range_with_len m (length rest))) regroup (length-append before (item ∷ [])) in
      let here : list_any (same item) (distinct same before) ≡ list_any (same item) before = sym (seen_before item before) in
      let front : take n items ≡ before = take_at before (item ∷ rest) n refl in
      let back : drop n items ≡ item ∷ rest = drop_at before (item ∷ rest) n refl in
      let test : occurs_first same items n ≡ not (list_any (same item) before) = ap₂ (λ (xs ys : List A). is_new same xs ys) front back in
      let places = filter (occurs_first same items) (range_with_len (n + 1) (length rest)) in
      ap (λ (more : List ℕ). new_place same (distinct same before) n item ++ more) later
      ∙ one_place (list_any (same item) (distinct same before)) n places
      ∙ ap (λ (b : Bool). cond b (n ∷ places) places) (ap not here ∙ sym test)

  -- extents: of the places of the list, those at which an item occurs first, in rising order
  pub extents-are : (items : List A) → extents_of same items ≡ filter (occurs_first same items) (range_with_len 0 (length items))
  unfolding distinct
  extents-are items = sym (new_places-start same o items) ∙ first_places_from [] items

  -- ids: the number, within extents, of the place at which the item occurs first
  pub ids-are : (items : List A) → ids_of same items ≡ map (λ item. place_in nat_eq (extents_of same items) (place_in same items item)) items
  unfolding ids_of extents_of
  ids-are items =
      let seen = distinct same items in
      map_agree (place_in same seen) (λ (item : A). place_in nat_eq (map (place_in same items) seen) (place_in same items item)) items
      (Each-weaker (λ (x : A). list_any (same x) items ≡ true) (λ (x : A). place_in same seen x ≡ place_in nat_eq (map (place_in same items) seen) (place_in same items x))
      (λ (x : A) (p : list_any (same x) items ≡ true).
      sym (place_map (nat_eq (place_in same items x)) (place_in same items) seen
      ∙ place_agree (λ (d : A). nat_eq (place_in same items x) (place_in same items d)) (same x) seen
      (Each-weaker (λ (d : A). list_any (same d) items ≡ true) (λ (d : A). nat_eq (place_in same items x) (place_in same items d) ≡ same x d)
      (λ (d : A) (q : list_any (same d) items ≡ true). number_tells same o x d items p q) seen (distinct-among same o items))))
      items (any_of same o items []))

-- ---- lengths, and where extents are

pub length-ids_of : {A : Type 0} (same : A → A → Bool) (items : List A) → length (ids_of same items) ≡ length items
unfolding ids_of
length-ids_of same items = length-map items (place_in same (distinct same items))

pub length-extents_of : {A : Type 0} (same : A → A → Bool) (items : List A) → length (extents_of same items) ≡ length (distinct same items)
unfolding extents_of
length-extents_of same items = length-map (distinct same items) (place_in same items)

range_later_all : (from n low : ℕ) → low < from → AllByRecursion (λ k. nat_cmp low k ≡ Less) (range_with_len from n)
range_later_all from zero low h = tt
range_later_all from (suc n) low h = (cond-true (nat_lt low from) Less _ (lt-ltb low from h), range_later_all (from + 1) n low (omega arith))

range_rises : (from n : ℕ) → IsStrictlySortedBy nat_cmp (range_with_len from n)
unfolding IsStrictlySortedBy
range_rises from zero = tt
range_rises from (suc n) = (range_later_all (from + 1) n from (omega arith), range_rises (from + 1) n)

pub range_below : (from n : ℕ) → AllByRecursion (λ k. k < from + n) (range_with_len from n)
range_below from zero = tt
range_below from (suc n) = (omega arith, subst (λ (end : ℕ). AllByRecursion (λ k. k < end) (range_with_len (from + 1) n)) (omega arith) (range_below (from + 1) n))

filter_keeps : {X : Type 0} (test : X → Bool) (P : X → Type 0) (xs : List X) → AllByRecursion P xs → AllByRecursion P (filter test xs)
filter_keeps test P [] h = tt
filter_keeps {X} test P (x ∷ xs) h = step (test x) (filter_keeps test P xs h.1)
  where
    step : (b : Bool) → AllByRecursion P (filter test xs) → AllByRecursion P (cond b (x ∷ filter test xs) (filter test xs))
    step true rest = (h.0, rest)
    step false rest = rest

-- extents rise, and are places of the list
pub extents-rise : {A : Type 0} (same : A → A → Bool) → IsEquivalence same → (items : List A) → IsStrictlyIncreasing (extents_of same items)
extents-rise same o items =
    subst (λ (xs : List ℕ). IsStrictlyIncreasing xs) (sym (extents-are same o items))
    (IsStrictlyIncreasing-from_sorted (filter (occurs_first same items) (range_with_len 0 (length items)))
    (IsStrictlySortedBy-filter nat_cmp (occurs_first same items) (range_with_len 0 (length items)) (range_rises 0 (length items))))

pub extents-below : {A : Type 0} (same : A → A → Bool) → IsEquivalence same → (items : List A) → AllByRecursion (λ place. place < length items) (extents_of same items)
extents-below same o items =
    subst (λ (xs : List ℕ). AllByRecursion (λ place. place < length items) xs) (sym (extents-are same o items))
    (filter_keeps (occurs_first same items) (λ place. place < length items) (range_with_len 0 (length items))
    (subst (λ (end : ℕ). AllByRecursion (λ k. k < end) (range_with_len 0 (length items))) (omega arith) (range_below 0 (length items))))

-- a fact of each item, by places
pub All-from_each : {X : Type 0} (P : X → Type 0) (xs : List X) → AllByRecursion P xs → All P xs
All-from_each P [] h = All-nil P
All-from_each P (x ∷ xs) h = All-cons P x xs h.0 (All-from_each P xs h.1)

-- each id is that of one of the distinct items
pub ids-below : {A : Type 0} (same : A → A → Bool) → IsEquivalence same → (items : List A) → All (λ id. id < length (extents_of same items)) (ids_of same items)
unfolding ids_of
ids-below {A} same o items =
    let seen : List A = distinct same items in
    All-map (λ id. id < length (extents_of same items)) (place_in same seen) items
    (All-from_each (λ (x : A). place_in same seen x < length (extents_of same items)) items
    (Each-weaker (λ (x : A). list_any (same x) seen ≡ true) (λ (x : A). place_in same seen x < length (extents_of same items))
    (λ (x : A) (h : list_any (same x) seen ≡ true). subst (λ n. place_in same seen x < n) (sym (length-extents_of same items)) (place_within (same x) seen h))
    items (distinct-all same o items)))
