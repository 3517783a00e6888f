-- The laws of groups.
use Rattle.std.proofs.Common.{◌≡◌, ℕ, zero, suc, ◌+◌, ◌<◌, Bool, true, false, cond, not, ◌&&◌, ◌||◌, List, [], ◌∷◌, ◌++◌, map, length, get_or, refl, sym, ap, ap₂, ◌∙◌, subst, inl, inr, arith, append_assoc}
use Rattle.std.specs.Prelude.{filter, zip, nat_eq, sum}
use Rattle.std.specs.List.{list_any, position_or_len, fold, range_with_len, AllByRecursion, IsDistinct}
use Rattle.std.specs.Cmp.{IsEquivalence, nat_eq_equiv}
use Rattle.std.proofs.lemmas.Bool.{false≢true, and_parts, and_from, eqb-true, eq-eqb, or_cases, or_parts, or_left, or_right, ne_eqb, false_from_ne_true}
use Rattle.std.proofs.lemmas.List.{map-append, append-nil, get_or-map, length-map}
use Rattle.std.proofs.lemmas.List.Folds.{list_any-append}
use Rattle.std.proofs.lemmas.List.Sums.{passes_at_first}
use Rattle.std.proofs.lemmas.Map.Keys.{IsDistinct-push}
use Rattle.std.proofs.Math.Bool.{and-true, and_assoc}
use Rattle.definitions_operators.specs.Operators.{values_at}
use Rattle.definitions_operators.specs.Groups.{Grouping, with_item, distinct, groups_of, operand_of, tuple_of, same_tuple, sum_with, sums_of}
use Rattle.definitions_operators.proofs.GroupWords.{place_in, ids_of, extents_of, grouping, same_pair, refine_items, refined_by, group_all}

-- ---- a fact of each item

abbrev pub Each : {X : Type 0} → (X → Type 0) → List X → Type 0
Each P items = AllByRecursion P items

pub Each-append : {X : Type 0} (P : X → Type 0) (xs ys : List X) → Each P xs → Each P ys → Each P (xs ++ ys)
Each-append P [] ys p q = q
Each-append P (x ∷ xs) ys p q = (p.0, Each-append P xs ys p.1 q)

pub Each-weaker : {X : Type 0} (P Q : X → Type 0) → ((x : X) → P x → Q x) → (xs : List X) → Each P xs → Each Q xs
Each-weaker P Q f [] p = tt
Each-weaker P Q f (x ∷ xs) p = (f x p.0, Each-weaker P Q f xs p.1)

pub map_agree : {X Y : Type 0} (f g : X → Y) (xs : List X) → Each (λ x. f x ≡ g x) xs → map f xs ≡ map g xs
map_agree f g [] p = refl
map_agree f g (x ∷ xs) p = ap₂ (λ y ys. y ∷ ys) p.0 (map_agree f g xs p.1)

pub map_map : {X Y Z : Type 0} (f : Y → Z) (g : X → Y) (xs : List X) → map f (map g xs) ≡ map (λ x. f (g x)) xs
map_map f g [] = refl
map_map f g (x ∷ xs) = ap (λ ys. f (g x) ∷ ys) (map_map f g xs)

pub fold_append : {X S : Type 0} (f : S → X → S) (s : S) (xs ys : List X) → fold f s (xs ++ ys) ≡ fold f (fold f s xs) ys
fold_append f s [] ys = refl
fold_append f s (x ∷ xs) ys = fold_append f (f s x) xs ys

-- ---- tests along a list

pub any_map : {X Y : Type 0} (test : Y → Bool) (p : X → Y) (xs : List X) → list_any test (map p xs) ≡ list_any (λ x. test (p x)) xs
any_map test p [] = refl
any_map test p (x ∷ xs) = ap (λ b. test (p x) || b) (any_map test p xs)

pub place_map : {X Y : Type 0} (test : Y → Bool) (p : X → Y) (xs : List X) → position_or_len test (map p xs) ≡ position_or_len (λ x. test (p x)) xs
place_map test p [] = refl
place_map test p (x ∷ xs) = ap (λ n. cond (not (test (p x))) (1 + n) 0) (place_map test p xs)

pub any_agree : {X : Type 0} (s t : X → Bool) (xs : List X) → Each (λ x. s x ≡ t x) xs → list_any s xs ≡ list_any t xs
any_agree s t [] h = refl
any_agree s t (x ∷ xs) h = ap₂ (λ a b. a || b) h.0 (any_agree s t xs h.1)

pub place_agree : {X : Type 0} (s t : X → Bool) (xs : List X) → Each (λ x. s x ≡ t x) xs → position_or_len s xs ≡ position_or_len t xs
place_agree s t [] h = refl
place_agree s t (x ∷ xs) h = ap₂ (λ a n. cond (not a) (1 + n) 0) h.0 (place_agree s t xs h.1)

-- a test that some item passes has its first place in the list, and in any longer one
first_step : (b any : Bool) (n m : ℕ) → (any ≡ true → n ≡ m) → (b || any) ≡ true → cond (not b) (1 + n) 0 ≡ cond (not b) (1 + m) 0
first_step true any n m f h = refl
first_step false any n m f h = ap (λ (k : ℕ). 1 + k) (f h)

place_first : {X : Type 0} (test : X → Bool) (xs ys : List X) → list_any test xs ≡ true → position_or_len test (xs ++ ys) ≡ position_or_len test xs
place_first test [] ys h = absurd (false≢true h)
place_first test (x ∷ xs) ys h = first_step (test x) (list_any test xs) _ _ (place_first test xs ys) h

within_step : (b any : Bool) (n m : ℕ) → (any ≡ true → n < m) → (b || any) ≡ true → cond (not b) (1 + n) 0 < suc m
within_step true any n m f h = omega arith
within_step false any n m f h = let k : n < m = f h in omega arith

pub place_within : {X : Type 0} (test : X → Bool) (xs : List X) → list_any test xs ≡ true → position_or_len test xs < length xs
place_within test [] h = absurd (false≢true h)
place_within test (x ∷ xs) h = within_step (test x) (list_any test xs) _ _ (place_within test xs) h

-- a test that no item passes has its place behind the list
place_none : {X : Type 0} (test : X → Bool) (xs ys : List X) → list_any test xs ≡ false → position_or_len test (xs ++ ys) ≡ length xs + position_or_len test ys
place_none test [] ys h = omega arith
place_none test (x ∷ xs) ys h =
    let parts = or_parts (test x) (list_any test xs) h in
    let rest = place_none test xs ys parts.1 in
    ap (λ (b : Bool). cond (not b) (1 + position_or_len test (xs ++ ys)) 0) parts.0 ∙ omega arith

-- ---- the distinct items

module _ {A : Type 0} (same : A → A → Bool) where
  -- from the items seen so far on
  distinct_from : List A → List A → List A
  distinct_from seen items = fold (with_item same) seen items

  pub distinct_more : (items : List A) (item : A) → distinct same (items ++ item ∷ []) ≡ with_item same (distinct same items) item
  unfolding distinct
  distinct_more items item = fold_append (with_item same) [] items (item ∷ [])

  with_item_Each : (P : A → Type 0) (b : Bool) (seen : List A) (item : A) → Each P seen → P item → Each P (cond b seen (seen ++ item ∷ []))
  with_item_Each P true seen item p q = p
  with_item_Each P false seen item p q = Each-append P seen (item ∷ []) p (q, tt)

  distinct_from-Each : (P : A → Type 0) (seen items : List A) → Each P seen → Each P items → Each P (fold (with_item same) seen items)
  distinct_from-Each P seen [] p q = p
  distinct_from-Each P seen (x ∷ xs) p q = distinct_from-Each P (with_item same seen x) xs (with_item_Each P (list_any (same x) seen) seen x p q.0) q.1

  -- what holds of each item holds of each distinct one
  pub distinct-Each : (P : A → Type 0) (items : List A) → Each P items → Each P (distinct same items)
  unfolding distinct
  distinct-Each P items p = distinct_from-Each P [] items tt p

  any_kept_by : (test : A → Bool) (b : Bool) (seen : List A) (item : A) → list_any test seen ≡ true → list_any test (cond b seen (seen ++ item ∷ [])) ≡ true
  any_kept_by test true seen item h = h
  any_kept_by test false seen item h = list_any-append test seen (item ∷ []) ∙ or_left (list_any test seen) (list_any test (item ∷ [])) h

  any_kept : (test : A → Bool) (seen items : List A) → list_any test seen ≡ true → list_any test (fold (with_item same) seen items) ≡ true
  any_kept test seen [] h = h
  any_kept test seen (x ∷ xs) h = any_kept test (with_item same seen x) xs (any_kept_by test (list_any (same x) seen) seen x h)

  module _ (o : IsEquivalence same) where
    any_itself_by : (b : Bool) (seen : List A) (item : A) → list_any (same item) seen ≡ b → list_any (same item) (cond b seen (seen ++ item ∷ [])) ≡ true
    any_itself_by true seen item e = e
    any_itself_by false seen item e =
        list_any-append (same item) seen (item ∷ []) ∙ or_right (list_any (same item) seen) (list_any (same item) (item ∷ []))
        (or_left (same item item) false (o.refl item))

    seen_from : (seen items : List A) → Each (λ x. list_any (same x) (fold (with_item same) seen items) ≡ true) items
    seen_from seen [] = tt
    seen_from seen (x ∷ xs) =
        (any_kept (same x) (with_item same seen x) xs (any_itself_by (list_any (same x) seen) seen x refl), seen_from (with_item same seen x) xs)

    -- each item is the same as some distinct one
    pub distinct-all : (items : List A) → Each (λ x. list_any (same x) (distinct same items) ≡ true) items
    unfolding distinct
    distinct-all items = seen_from [] items

    pub any_of : (items more : List A) → Each (λ x. list_any (same x) (more ++ items) ≡ true) items
    any_of [] more = tt
    any_of (x ∷ xs) more = (
      list_any-append (same x) more (x ∷ xs) ∙ or_right (list_any (same x) more) (list_any (same x) (x ∷ xs)) (or_left (same x x) (list_any (same x) xs) (o.refl x)),
      subst (λ (all : List A). Each (λ y. list_any (same y) all ≡ true) xs) (append_assoc more (x ∷ []) xs) (any_of xs (more ++ x ∷ [])),
    )

    -- each distinct item is the same as some item
    pub distinct-among : (items : List A) → Each (λ x. list_any (same x) items ≡ true) (distinct same items)
    distinct-among items = distinct-Each (λ x. list_any (same x) items ≡ true) items (any_of items [])

    apart_by : (b : Bool) (seen : List A) (item : A) → list_any (same item) seen ≡ b → IsDistinct same seen → IsDistinct same (cond b seen (seen ++ item ∷ []))
    apart_by true seen item e d = d
    apart_by false seen item e d = IsDistinct-push o seen item d e

    apart_from : (seen items : List A) → IsDistinct same seen → IsDistinct same (fold (with_item same) seen items)
    apart_from seen [] d = d
    apart_from seen (x ∷ xs) d = apart_from (with_item same seen x) xs (apart_by (list_any (same x) seen) seen x refl d)

    -- no two distinct items are the same
    pub distinct-apart : (items : List A) → IsDistinct same (distinct same items)
    unfolding distinct IsDistinct
    distinct-apart items = apart_from [] items tt

    -- ---- one item more
    any_same : (x y : A) (items : List A) → same x y ≡ true → list_any (same x) items ≡ list_any (same y) items
    any_same x y items h = any_agree (same x) (same y) items (each items)
      where
        each : (zs : List A) → Each (λ z. same x z ≡ same y z) zs
        each [] = tt
        each (z ∷ zs) = (o.congr x y z h, each zs)

    place_kept : (b : Bool) (seen : List A) (item x : A) → list_any (same x) seen ≡ true → place_in same (cond b seen (seen ++ item ∷ [])) x ≡ place_in same seen x
    place_kept true seen item x h = refl
    place_kept false seen item x h = place_first (same x) seen (item ∷ []) h

    place_new : (b : Bool) (seen : List A) (item : A) → list_any (same item) seen ≡ b → place_in same (cond b seen (seen ++ item ∷ [])) item ≡ place_in same seen item
    place_new true seen item e = refl
    place_new false seen item e =
        place_none (same item) seen (item ∷ []) e ∙ ap (λ (b : Bool). length seen + cond (not b) 1 0) (o.refl item)
        ∙ sym (ap (λ (all : List A). place_in same all item) (sym (append-nil seen)) ∙ place_none (same item) seen [] e)

    pub ids_more : (items : List A) (item : A) → ids_of same (items ++ item ∷ []) ≡ ids_of same items ++ place_in same (distinct same items) item ∷ []
    unfolding ids_of
    ids_more items item =
        let seen = distinct same items in
        let old : map (place_in same (with_item same seen item)) items ≡ map (place_in same seen) items =
        map_agree (place_in same (with_item same seen item)) (place_in same seen) items
        (Each-weaker (λ (x : A). list_any (same x) seen ≡ true) (λ (x : A). place_in same (with_item same seen item) x ≡ place_in same seen x)
        (λ (x : A) (h : list_any (same x) seen ≡ true). place_kept (list_any (same item) seen) seen item x h) items (distinct-all items)) in
        ap (λ (all : List A). map (place_in same all) (items ++ item ∷ [])) (distinct_more items item)
        ∙ map-append (place_in same (with_item same seen item)) items (item ∷ [])
        ∙ ap₂ (λ (front : List ℕ) (last : ℕ). front ++ last ∷ []) old (place_new (list_any (same item) seen) seen item refl)

    pub any_along : (item : A) (seen items : List A) → Each (λ x. list_any (same x) seen ≡ true) items → list_any (same item) items ≡ true → list_any (same item) seen ≡ true
    any_along item seen [] each h = absurd (false≢true h)
    any_along item seen (x ∷ xs) each h =
        elim (or_cases (same item x) (list_any (same item) xs) h) [
          | inl here ↦ any_same item x seen here ∙ each.0
          | inr later ↦ any_along item seen xs each.1 later
        ]

    absent_before : (items : List A) (item : A) → list_any (same item) (distinct same items) ≡ false → list_any (same item) items ≡ false
    absent_before items item e =
        false_from_ne_true (list_any (same item) items)
        (λ (h : list_any (same item) items ≡ true). false≢true (sym e ∙ any_along item (distinct same items) items (distinct-all items) h))

    extents_old : (items : List A) (item : A) → map (place_in same (items ++ item ∷ [])) (distinct same items) ≡ map (place_in same items) (distinct same items)
    extents_old items item =
        map_agree (place_in same (items ++ item ∷ [])) (place_in same items) (distinct same items)
        (Each-weaker (λ (x : A). list_any (same x) items ≡ true) (λ (x : A). place_in same (items ++ item ∷ []) x ≡ place_in same items x)
        (λ (x : A) (h : list_any (same x) items ≡ true). place_first (same x) items (item ∷ []) h) (distinct same items) (distinct-among items))

    extents_step : (b : Bool) (items : List A) (item : A) → list_any (same item) (distinct same items) ≡ b →
        map (place_in same (items ++ item ∷ [])) (cond b (distinct same items) (distinct same items ++ item ∷ []))
        ≡ cond b (map (place_in same items) (distinct same items)) (map (place_in same items) (distinct same items) ++ length items ∷ [])
    extents_step true items item e = extents_old items item
    extents_step false items item e =
        map-append (place_in same (items ++ item ∷ [])) (distinct same items) (item ∷ [])
        ∙ ap₂ (λ (front : List ℕ) (last : ℕ). front ++ last ∷ []) (extents_old items item)
        (place_none (same item) items (item ∷ []) (absent_before items item e) ∙ ap (λ (b : Bool). length items + cond (not b) 1 0) (o.refl item) ∙ omega arith)

    pub extents_more : (items : List A) (item : A) →
        extents_of same (items ++ item ∷ []) ≡ cond (list_any (same item) (distinct same items)) (extents_of same items) (extents_of same items ++ length items ∷ [])
    unfolding extents_of
    extents_more items item =
        ap (λ (all : List A). map (place_in same (items ++ item ∷ [])) all) (distinct_more items item)
        ∙ extents_step (list_any (same item) (distinct same items)) items item refl

    -- two items have one number exactly if they are the same
    same_number : (b : Bool) (x y : A) (seen : List A) → same x y ≡ b → list_any (same x) seen ≡ true → list_any (same y) seen ≡ true
        → nat_eq (place_in same seen x) (place_in same seen y) ≡ b
    same_number true x y seen e p q = eq-eqb _ _ (place_agree (same x) (same y) seen (each seen))
      where
        each : (zs : List A) → Each (λ z. same x z ≡ same y z) zs
        each [] = tt
        each (z ∷ zs) = (o.congr x y z e, each zs)
    same_number false x y seen e p q = ne_eqb (place_in same seen x) (place_in same seen y) (λ (k : place_in same seen x ≡ place_in same seen y).
        let d = get_or seen (place_in same seen x) x in
        let first : same x d ≡ true = passes_at_first (same x) seen x (place_within (same x) seen p) in
        let second : same y (get_or seen (place_in same seen y) x) ≡ true = passes_at_first (same y) seen x (place_within (same y) seen q) in
        let other : same y d ≡ true = ap (λ (n : ℕ). same y (get_or seen n x)) k ∙ second in
        false≢true (sym e ∙ o.congr x d y first ∙ o.symm d y ∙ other))

    pub number_tells : (x y : A) (seen : List A) → list_any (same x) seen ≡ true → list_any (same y) seen ≡ true → nat_eq (place_in same seen x) (place_in same seen y) ≡ same x y
    number_tells x y seen p q = same_number (same x y) x y seen refl p q

-- ---- two tests that agree on the items

abbrev grouped : List ℕ → List ℕ → Grouping
grouped ids extents = record { ids = ids; extents = extents }

module _ {A : Type 0} (s t : A → A → Bool) (P : A → Type 0) (agree : (x y : A) → P x → P y → s x y ≡ t x y) where
  agree_each : (x : A) → P x → (ys : List A) → Each P ys → Each (λ y. s x y ≡ t x y) ys
  agree_each x p ys q = Each-weaker P (λ (y : A). s x y ≡ t x y) (λ (y : A) (r : P y). agree x y p r) ys q

  distinct_agree_from : (seen items : List A) → Each P seen → Each P items → fold (with_item s) seen items ≡ fold (with_item t) seen items
  distinct_agree_from seen [] p q = refl
  distinct_agree_from seen (x ∷ xs) p q =
      let here : with_item s seen x ≡ with_item t seen x =
      ap (λ (b : Bool). cond b seen (seen ++ x ∷ [])) (any_agree (s x) (t x) seen (agree_each x q.0 seen p)) in
      distinct_agree_from (with_item s seen x) xs (with_item_Each s P (list_any (s x) seen) seen x p q.0) q.1
      ∙ ap (λ (next : List A). fold (with_item t) next xs) here

  pub distinct_agree : (items : List A) → Each P items → distinct s items ≡ distinct t items
  unfolding distinct
  distinct_agree items q = distinct_agree_from [] items tt q

  pub ids_agree : (items : List A) → Each P items → ids_of s items ≡ ids_of t items
  unfolding ids_of
  ids_agree items q =
      map_agree (place_in s (distinct s items)) (place_in t (distinct s items)) items
      (Each-weaker P (λ (x : A). place_in s (distinct s items) x ≡ place_in t (distinct s items) x)
      (λ (x : A) (p : P x). place_agree (s x) (t x) (distinct s items) (agree_each x p (distinct s items) (distinct-Each s P items q))) items q)
      ∙ ap (λ (all : List A). map (place_in t all) items) (distinct_agree items q)

  pub extents_agree : (items : List A) → Each P items → extents_of s items ≡ extents_of t items
  unfolding extents_of
  extents_agree items q =
      map_agree (place_in s items) (place_in t items) (distinct s items)
      (Each-weaker P (λ (x : A). place_in s items x ≡ place_in t items x)
      (λ (x : A) (p : P x). place_agree (s x) (t x) items (agree_each x p items q)) (distinct s items) (distinct-Each s P items q))
      ∙ ap (λ (all : List A). map (place_in t items) all) (distinct_agree items q)

  pub grouping_agree : (items : List A) → Each P items → grouping s items ≡ grouping t items
  grouping_agree items q = ap₂ grouped (ids_agree items q) (extents_agree items q)

-- ---- items that are made from others

module _ {A B : Type 0} (same : B → B → Bool) (made : A → B) where
  abbrev pub on : A → A → Bool
  on x y = same (made x) (made y)

  map_step : (b : Bool) (seen : List A) (x : A) → cond b (map made seen) (map made seen ++ made x ∷ []) ≡ map made (cond b seen (seen ++ x ∷ []))
  map_step true seen x = refl
  map_step false seen x = sym (map-append made seen (x ∷ []))

  distinct_map_from : (seen items : List A) → fold (with_item same) (map made seen) (map made items) ≡ map made (fold (with_item on) seen items)
  distinct_map_from seen [] = refl
  distinct_map_from seen (x ∷ xs) =
      let here : with_item same (map made seen) (made x) ≡ map made (with_item on seen x) =
      ap (λ (b : Bool). cond b (map made seen) (map made seen ++ made x ∷ [])) (any_map (same (made x)) made seen) ∙ map_step (list_any (on x) seen) seen x in
      ap (λ (next : List B). fold (with_item same) next (map made xs)) here ∙ distinct_map_from (with_item on seen x) xs

  -- the distinct ones among items made from others are made from the distinct ones
  pub distinct_map : (items : List A) → distinct same (map made items) ≡ map made (distinct on items)
  unfolding distinct
  distinct_map items = distinct_map_from [] items

  all_each : (P : A → Type 0) → ((x : A) → P x) → (xs : List A) → Each P xs
  all_each P f [] = tt
  all_each P f (x ∷ xs) = (f x, all_each P f xs)

  pub ids_map : (items : List A) → ids_of same (map made items) ≡ ids_of on items
  unfolding ids_of
  ids_map items =
      ap (λ (all : List B). map (place_in same all) (map made items)) (distinct_map items)
      ∙ map_map (place_in same (map made (distinct on items))) made items
      ∙ map_agree (λ (x : A). place_in same (map made (distinct on items)) (made x)) (place_in on (distinct on items)) items
      (all_each (λ (x : A). place_in same (map made (distinct on items)) (made x) ≡ place_in on (distinct on items) x)
      (λ (x : A). place_map (same (made x)) made (distinct on items)) items)

  pub extents_map : (items : List A) → extents_of same (map made items) ≡ extents_of on items
  unfolding extents_of
  extents_map items =
      ap (λ (all : List B). map (place_in same (map made items)) all) (distinct_map items)
      ∙ map_map (place_in same (map made items)) made (distinct on items)
      ∙ map_agree (λ (x : A). place_in same (map made items) (made x)) (place_in on items) (distinct on items)
      (all_each (λ (x : A). place_in same (map made items) (made x) ≡ place_in on items x)
      (λ (x : A). place_map (same (made x)) made items) (distinct on items))

  pub grouping_map : (items : List A) → grouping same (map made items) ≡ grouping on items
  grouping_map items = ap₂ grouped (ids_map items) (extents_map items)

-- ---- refinement

-- two tests at once
abbrev pub both : {A : Type 0} → (A → A → Bool) → (A → ℕ) → A → A → Bool
both same column x y = same x y && nat_eq (column x) (column y)

pub zip_maps : {A X Y : Type 0} (f : A → X) (g : A → Y) (xs : List A) → zip (map f xs) (map g xs) ≡ map (λ x. (f x, g x)) xs
zip_maps f g [] = refl
zip_maps f g (x ∷ xs) = ap (λ ps. (f x, g x) ∷ ps) (zip_maps f g xs)

module _ {A : Type 0} (same : A → A → Bool) (o : IsEquivalence same) (column : A → ℕ) where
  -- groups refined by a column are the groups of the items that were the same and agree in the column
  pub refine_is : (rows : List A) → refine_items (ids_of same rows) (map column rows) ≡ grouping (both same column) rows
  unfolding ids_of
  refine_is rows =
      let seen = distinct same rows in
      let pair : A → ℕ × ℕ = λ row. (place_in same seen row, column row) in
      let P : A → Type 0 = λ row. list_any (same row) seen ≡ true in
      let agree : (x y : A) → P x → P y → on same_pair pair x y ≡ both same column x y =
      λ x y p q. ap (λ (b : Bool). b && nat_eq (column x) (column y)) (number_tells same o x y seen p q) in
      ap (λ (pairs : List (ℕ × ℕ)). grouping same_pair pairs) (zip_maps (place_in same seen) column rows)
      ∙ grouping_map same_pair pair rows
      ∙ grouping_agree (on same_pair pair) (both same column) P agree rows (distinct-all same o rows)

  both-refl : (x : A) → both same column x x ≡ true
  both-refl x = and_from (same x x) (nat_eq (column x) (column x)) (o.refl x) (eq-eqb _ _ refl)

  pub both-equivalence : IsEquivalence (both same column)
  both-equivalence = record {
    refl = both-refl;
    symm = λ x y. ap₂ (λ (a b : Bool). a && b) (o.symm x y) (nat_eq_equiv.symm (column x) (column y));
    congr = λ x y z h. let parts = and_parts (same x y) (nat_eq (column x) (column y)) h in
        ap₂ (λ (a b : Bool). a && b) (o.congr x y z parts.0) (nat_eq_equiv.congr (column x) (column y) (column z) parts.1);
  }

-- ---- the chain over the key columns

-- two rows agree in a column
abbrev pub by_column : {R : Type 0} → (R → ℕ) → R → R → Bool
by_column column x y = nat_eq (column x) (column y)

module _ {R : Type 0} where
  abbrev pub values_in : List R → (R → ℕ) → List ℕ
  values_in rows column = map column rows

  by_column-equivalence : (column : R → ℕ) → IsEquivalence (by_column column)
  by_column-equivalence column = record {
    refl = λ x. nat_eq_equiv.refl (column x);
    symm = λ x y. nat_eq_equiv.symm (column x) (column y);
    congr = λ x y z h. nat_eq_equiv.congr (column x) (column y) (column z) h;
  }

  chain_from : (same : R → R → Bool) → IsEquivalence same → (rows : List R) (columns : List (R → ℕ))
      → fold refined_by (grouping same rows) (map (values_in rows) columns) ≡ grouping (fold both same columns) rows
  chain_from same o rows [] = refl
  chain_from same o rows (column ∷ columns) =
      ap (λ (found : Grouping). fold refined_by found (map (values_in rows) columns)) (refine_is same o column rows)
      ∙ chain_from (both same column) (both-equivalence same o column) rows columns

  both-tuple : (same : R → R → Bool) (columns : List (R → ℕ)) (x y : R) → fold both same columns x y ≡ (same x y && same_tuple (tuple_of columns x) (tuple_of columns y))
  both-tuple same [] x y = sym (and-true (same x y))
  both-tuple same (column ∷ columns) x y =
      both-tuple (both same column) columns x y ∙ and_assoc (same x y) (nat_eq (column x) (column y)) (same_tuple (tuple_of columns x) (tuple_of columns y))

  -- the groups of the key columns, one refined by the next, are the groups of the tuples
  pub group_all-is : (first : R → ℕ) (later : List (R → ℕ)) (rows : List R)
      → group_all (map first rows) (map (values_in rows) later) ≡ grouping same_tuple (map (tuple_of (first ∷ later)) rows)
  group_all-is first later rows =
      let tuple : R → List ℕ = tuple_of (first ∷ later) in
      ap (λ (found : Grouping). fold refined_by found (map (values_in rows) later)) (grouping_map nat_eq first rows)
      ∙ chain_from (by_column first) (by_column-equivalence first) rows later
      ∙ grouping_agree (fold both (by_column first) later) (on same_tuple tuple) (λ (row : R). Unit {0}) (λ x y p q. both-tuple (by_column first) later x y) rows (each_row rows)
      ∙ sym (grouping_map same_tuple tuple rows)
    where
      each_row : (rows : List R) → Each (λ (row : R). Unit {0}) rows
      each_row [] = tt
      each_row (r ∷ rows) = (tt, each_row rows)

-- ---- the keys

module _ {R : Type 0} (same : R → R → Bool) (o : IsEquivalence same) where
  -- a column that the same rows agree in, at the extents, is the column of the distinct rows
  pub values_at-extents : (column : R → ℕ) → ((x y : R) → same x y ≡ true → column x ≡ column y) → (rows : List R)
      → values_at (map column rows) (extents_of same rows) ≡ map column (distinct same rows)
  unfolding extents_of
  values_at-extents column alike rows =
      map_map (λ (place : ℕ). get_or (map column rows) place 0) (place_in same rows) (distinct same rows)
      ∙ map_agree (λ (d : R). get_or (map column rows) (place_in same rows d) 0) column (distinct same rows)
      (Each-weaker (λ (d : R). list_any (same d) rows ≡ true) (λ (d : R). get_or (map column rows) (place_in same rows d) 0 ≡ column d)
      (λ (d : R) (h : list_any (same d) rows ≡ true).
      let within : place_in same rows d < length rows = place_within (same d) rows h in
      get_or-map column rows (place_in same rows d) d 0 within ∙ sym (alike d (get_or rows (place_in same rows d) d) (passes_at_first (same d) rows d within)))
      (distinct same rows) (distinct-among same o rows))

pub same_tuple-true : (xs ys : List ℕ) → same_tuple xs ys ≡ true → xs ≡ ys
same_tuple-true [] [] h = refl
same_tuple-true [] (y ∷ ys) h = absurd (false≢true h)
same_tuple-true (x ∷ xs) [] h = absurd (false≢true h)
same_tuple-true (x ∷ xs) (y ∷ ys) h =
    let parts = and_parts (nat_eq x y) (same_tuple xs ys) h in
    ap₂ (λ (z : ℕ) (zs : List ℕ). z ∷ zs) (eqb-true x y parts.0) (same_tuple-true xs ys parts.1)

same_tuple-refl : (xs : List ℕ) → same_tuple xs xs ≡ true
same_tuple-refl [] = refl
same_tuple-refl (x ∷ xs) = and_from (nat_eq x x) (same_tuple xs xs) (eq-eqb x x refl) (same_tuple-refl xs)

same_tuple-symm : (xs ys : List ℕ) → same_tuple xs ys ≡ same_tuple ys xs
same_tuple-symm [] [] = refl
same_tuple-symm [] (y ∷ ys) = refl
same_tuple-symm (x ∷ xs) [] = refl
same_tuple-symm (x ∷ xs) (y ∷ ys) = ap₂ (λ (a b : Bool). a && b) (nat_eq_equiv.symm x y) (same_tuple-symm xs ys)

pub same_tuple-equivalence : IsEquivalence same_tuple
same_tuple-equivalence = record {
  refl = same_tuple-refl;
  symm = same_tuple-symm;
  congr = λ x y z h. ap (λ (xs : List ℕ). same_tuple xs z) (same_tuple-true x y h);
}

columns_alike : {R : Type 0} (test : R → R → Bool) (columns : List (R → ℕ)) → ((x y : R) → test x y ≡ true → tuple_of columns x ≡ tuple_of columns y)
    → Each (λ column. (x y : R) → test x y ≡ true → column x ≡ column y) columns
columns_alike test [] h = tt
columns_alike {R} test (column ∷ columns) h =
    let head : (x y : R) → test x y ≡ true → column x ≡ column y = λ x y k. let e = h x y k in cc in
    let tail : (x y : R) → test x y ≡ true → tuple_of columns x ≡ tuple_of columns y = λ x y k. let e = h x y k in cc in
    (head, columns_alike test columns tail)

-- equal tuples, as a test on rows
abbrev pub same_rows : {R : Type 0} → List (R → ℕ) → R → R → Bool
same_rows columns x y = same_tuple (tuple_of columns x) (tuple_of columns y)

pub same_rows-equivalence : {R : Type 0} (columns : List (R → ℕ)) → IsEquivalence (same_rows columns)
same_rows-equivalence columns = record {
  refl = λ x. same_tuple-refl (tuple_of columns x);
  symm = λ x y. same_tuple-symm (tuple_of columns x) (tuple_of columns y);
  congr = λ x y z h. same_tuple-equivalence.congr (tuple_of columns x) (tuple_of columns y) (tuple_of columns z) h;
}

-- The key columns at the extents, side by side, are the groups: one list per column of the distinct rows, whose tuples are the groups.
pub keys-are : {R : Type 0} (columns : List (R → ℕ)) (rows : List R)
    → Each (λ column. values_at (map column rows) (extents_of same_tuple (map (tuple_of columns) rows)) ≡ map column (distinct (same_rows columns) rows)) columns
keys-are {R} columns rows =
    let same : R → R → Bool = same_rows columns in
    Each-weaker (λ (column : R → ℕ). (x y : R) → same x y ≡ true → column x ≡ column y)
    (λ (column : R → ℕ). values_at (map column rows) (extents_of same_tuple (map (tuple_of columns) rows)) ≡ map column (distinct same rows))
    (λ (column : R → ℕ) (alike : (x y : R) → same x y ≡ true → column x ≡ column y).
    ap (values_at (map column rows)) (extents_map same_tuple (tuple_of columns) rows) ∙ values_at-extents same (same_rows-equivalence columns) column alike rows)
    columns (columns_alike same columns (λ x y k. same_tuple-true (tuple_of columns x) (tuple_of columns y) k))

pub groups-are : {R : Type 0} (columns : List (R → ℕ)) (rows : List R) → groups_of columns rows ≡ map (tuple_of columns) (distinct (same_rows columns) rows)
groups-are columns rows = distinct_map same_tuple (tuple_of columns) rows

-- ---- sums

pub filter_map_law : {X Y : Type 0} (test : Y → Bool) (f : X → Y) (xs : List X) → filter test (map f xs) ≡ map f (filter (λ x. test (f x)) xs)
filter_map_law test f [] = refl
filter_map_law {X} {Y} test f (x ∷ xs) = step (test (f x)) (filter_map_law test f xs)
  where
    step : (b : Bool) → filter test (map f xs) ≡ map f (filter (λ z. test (f z)) xs)
        → cond b (f x ∷ filter test (map f xs)) (filter test (map f xs)) ≡ map f (cond b (x ∷ filter (λ z. test (f z)) xs) (filter (λ z. test (f z)) xs))
    step true e = ap (λ (ys : List Y). f x ∷ ys) e
    step false e = e

pub filter_each : {X : Type 0} (s t : X → Bool) (xs : List X) → Each (λ x. s x ≡ t x) xs → filter s xs ≡ filter t xs
filter_each s t [] h = refl
filter_each {X} s t (x ∷ xs) h = ap₂ (λ (b : Bool) (rest : List X). cond b (x ∷ rest) rest) h.0 (filter_each s t xs h.1)

range_later : (a n : ℕ) → map (λ k. 1 + k) (range_with_len a n) ≡ range_with_len (1 + a) n
range_later a zero = refl
range_later a (suc n) = ap (λ (ks : List ℕ). (1 + a) ∷ ks) (range_later (a + 1) n ∙ ap (λ (b : ℕ). range_with_len b n) (omega arith))

module _ {A : Type 0} (same : A → A → Bool) (o : IsEquivalence same) where
  later_places : (d : A) (seen items : List A) → Each (λ y. same d y ≡ false) items
      → map (place_in same (d ∷ seen)) items ≡ map (λ y. 1 + place_in same seen y) items
  later_places d seen [] h = refl
  later_places d seen (y ∷ ys) h =
      let apart : same y d ≡ false = o.symm y d ∙ h.0 in
      ap₂ (λ (n : ℕ) (ns : List ℕ). n ∷ ns) (ap (λ (b : Bool). cond (not b) (1 + place_in same seen y) 0) apart) (later_places d seen ys h.1)

  -- the numbers of distinct items are 0, 1 and so on
  numbers : (items : List A) → IsDistinct same items → map (place_in same items) items ≡ range_with_len 0 (length items)
  unfolding IsDistinct
  numbers [] h = refl
  numbers (d ∷ ds) h =
      ap₂ (λ (n : ℕ) (ns : List ℕ). n ∷ ns) (ap (λ (b : Bool). cond (not b) (1 + place_in same ds d) 0) (o.refl d))
      (later_places d ds ds h.0 ∙ sym (map_map (λ (k : ℕ). 1 + k) (place_in same ds) ds) ∙ ap (map (λ (k : ℕ). 1 + k)) (numbers ds h.1) ∙ range_later 0 (length ds))

  sum_with-is : (summed : A → ℕ) (rows : List A) (id : ℕ)
      → sum_with (map summed rows) (ids_of same rows) id ≡ sum (map summed (filter (λ row. nat_eq (place_in same (distinct same rows) row) id) rows))
  unfolding ids_of
  sum_with-is summed rows id =
      let number : A → ℕ = place_in same (distinct same rows) in
      let pair : A → ℕ × ℕ = λ row. (summed row, number row) in
      ap (λ (pairs : List (ℕ × ℕ)). sum (map (λ p. p.0) (filter (λ p. nat_eq p.1 id) pairs))) (zip_maps summed number rows)
      ∙ ap (λ (pairs : List (ℕ × ℕ)). sum (map (λ p. p.0) pairs)) (filter_map_law (λ p. nat_eq p.1 id) pair rows)
      ∙ ap sum (map_map (λ (p : ℕ × ℕ). p.0) pair (filter (λ row. nat_eq (number row) id) rows))

  -- the sums by ids are the sums over the rows that are the same as each distinct one
  pub sums_of-is : (summed : A → ℕ) (rows : List A)
      → sums_of (map summed rows) (ids_of same rows) (length (distinct same rows)) ≡ map (λ d. sum (map summed (filter (same d) rows))) (distinct same rows)
  sums_of-is summed rows =
      let seen = distinct same rows in
      let sum_at : ℕ → ℕ = sum_with (map summed rows) (ids_of same rows) in
      let P : A → Type 0 = λ d. list_any (same d) seen ≡ true in
      ap (map sum_at) (sym (numbers seen (distinct-apart same o rows)))
      ∙ map_map sum_at (place_in same seen) seen
      ∙ map_agree (λ (d : A). sum_at (place_in same seen d)) (λ (d : A). sum (map summed (filter (same d) rows))) seen
      (Each-weaker P (λ (d : A). sum_at (place_in same seen d) ≡ sum (map summed (filter (same d) rows)))
      (λ (d : A) (p : P d).
      sum_with-is summed rows (place_in same seen d)
      ∙ ap (λ (kept : List A). sum (map summed kept))
      (filter_each (λ (row : A). nat_eq (place_in same seen row) (place_in same seen d)) (same d) rows
      (Each-weaker P (λ (row : A). nat_eq (place_in same seen row) (place_in same seen d) ≡ same d row)
      (λ (row : A) (q : P row). number_tells same o row d seen q p ∙ o.symm row d) rows (distinct-all same o rows))))
      seen (any_of same o seen []))

-- The sums by the last ids are the operands of the groups, in their order.
pub sums-are : {R : Type 0} (columns : List (R → ℕ)) (summed : R → ℕ) (rows : List R)
    → sums_of (map summed rows) (ids_of same_tuple (map (tuple_of columns) rows)) (length (groups_of columns rows)) ≡ map (operand_of columns summed rows) (groups_of columns rows)
sums-are {R} columns summed rows =
    let tuple : R → List ℕ = tuple_of columns in
    let rows_apart : List R = distinct (same_rows columns) rows in
    ap₂ (λ (ids : List ℕ) (n : ℕ). sums_of (map summed rows) ids n) (ids_map same_tuple tuple rows)
    (ap length (groups-are columns rows) ∙ length-map rows_apart tuple)
    ∙ sums_of-is (same_rows columns) (same_rows-equivalence columns) summed rows
    ∙ sym (map_map (operand_of columns summed rows) tuple rows_apart)
    ∙ ap (map (operand_of columns summed rows)) (sym (groups-are columns rows))

-- as many distinct ids as there are groups
pub ids-count : {A : Type 0} (same : A → A → Bool) → IsEquivalence same → (rows : List A) → length (distinct nat_eq (ids_of same rows)) ≡ length (distinct same rows)
unfolding ids_of
ids-count {A} same o rows =
    let seen = distinct same rows in
    let number : A → ℕ = place_in same seen in
    let P : A → Type 0 = λ row. list_any (same row) seen ≡ true in
    ap length (distinct_map nat_eq number rows) ∙ length-map (distinct (on nat_eq number) rows) number
    ∙ ap length (distinct_agree (on nat_eq number) same P (λ x y p q. number_tells same o x y seen p q) rows (distinct-all same o rows))
