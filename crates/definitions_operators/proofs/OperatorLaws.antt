-- What intersections, unions, projections and joins give of lists that tests keep.
use Rattle.std.proofs.Common.{◌≡◌, ℕ, zero, suc, ◌+◌, ◌<◌, ◌≤◌, Bool, true, false, cond, List, [], ◌∷◌, map, length, get_or, refl, sym, ap, ◌∙◌, subst, All, arith, inl, inr}
use Rattle.std.specs.Prelude.{◌&&◌, ◌||◌, ◌==◌, nat_lt, flat_map, filter, slice_index}
use Rattle.std.specs.List.{range_with_len}
use Rattle.std.proofs.lemmas.Bool.{cases_eq}
use Rattle.std.proofs.lemmas.Bool.Decides.{nat_tests, Decides-eqb}
use Rattle.std.proofs.lemmas.List.Elements.{All-head, All-tail, All-cons, All-nil, All-filter, All-weaker}
use Rattle.std.proofs.lemmas.List.{get_or-map, length-map}
use Rattle.definitions_operators.specs.Operators.{places, places_where, has, values_at, intersect, with_number, union, places_of, join}
use Rattle.definitions_operators.proofs.ListLaws.{filter-same}
use Rattle.definitions_operators.proofs.PlaceLaws.{places-below, places_where-below, places_where-same}
use Rattle.definitions_operators.proofs.MapLaws.{map-map, map-same, flat_map-same, map-flat_map, read-places, read-places-where, read-places-flat}

-- each number from a on, n of them, is from a to below a + n
pub range-from : (a n : ℕ) → All (λ k. a ≤ k) (range_with_len a n)
range-from a zero = All-nil (λ k. a ≤ k)
range-from a (suc n) =
    All-cons (λ k. a ≤ k) a (range_with_len (a + 1) n) (omega arith)
    (All-weaker (λ k. a + 1 ≤ k) (λ k. a ≤ k) (λ k h. omega arith) (range_with_len (a + 1) n) (range-from (a + 1) n))

pub range-below : (a n : ℕ) → All (λ k. k < a + n) (range_with_len a n)
range-below a zero = All-nil (λ k. k < a + zero)
range-below a (suc n) =
    All-cons (λ k. k < a + suc n) a (range_with_len (a + 1) n) (omega arith)
    (All-weaker (λ k. k < a + 1 + n) (λ k. k < a + suc n) (λ k h. omega arith) (range_with_len (a + 1) n) (range-below (a + 1) n))

has-range : (a n x : ℕ) → a ≤ x → x < a + n → has (range_with_len a n) x ≡ true
has-range a zero x low high = absurd (omega arith)
has-range a (suc n) x low high =
    elim (cases_eq a x) [
      | inl here ↦ ap (λ b. b || has (range_with_len (a + 1) n) x) ((Decides-eqb a x).1 here)
      | inr other ↦
          ap (λ b. (a == x) || b) (has-range (a + 1) n x (omega arith) (omega arith))
          ∙ (elim (a == x) as (λ b. (b || true) ≡ true) [ true ↦ refl | false ↦ refl ])
    ]

pub has-places : (n x : ℕ) → x < n → has (places n) x ≡ true
has-places n x below = has-range 0 n x (omega arith) (omega arith)

one_more : (keeps kept found rest : Bool) → (found ≡ true → kept ≡ keeps) → cond keeps (found || (kept && rest)) (kept && rest) ≡ (kept && (found || rest))
one_more true true true rest same = refl
one_more true false true rest same = sym (same refl)
one_more true kept false rest same = refl
one_more false true true rest same = absurd (let h : true ≡ false = same refl in cc)
one_more false false true rest same = refl
one_more false kept false rest same = refl

-- what stands in the part of a list that a test keeps
pub has-filter : (q : ℕ → Bool) (xs : List ℕ) (x : ℕ) → has (filter q xs) x ≡ (q x && has xs x)
has-filter q [] x = elim (q x) as (λ b. false ≡ (b && false)) [ true ↦ refl | false ↦ refl ]
has-filter q (y ∷ ys) x =
    (elim (q y) as (λ b. has (cond b (y ∷ filter q ys) (filter q ys)) x ≡ cond b ((y == x) || has (filter q ys) x) (has (filter q ys) x)) [ true ↦ refl | false ↦ refl ])
    ∙ ap (λ h. cond (q y) ((y == x) || h) h) (has-filter q ys x)
    ∙ one_more (q y) (q x) (y == x) (has ys x) (λ here. ap q (sym ((Decides-eqb y x).0 here)))

and-true : (b : Bool) → (b && true) ≡ b
and-true true = refl
and-true false = refl

-- an intersection with the places that a test keeps is the test
pub intersect-where : (q : ℕ → Bool) (n : ℕ) (xs : List ℕ) → All (λ x. x < n) xs → intersect xs (places_where q n) ≡ filter q xs
intersect-where q n xs below =
    filter-same (λ x. x < n) (has (places_where q n)) q
    (λ x h. has-filter q (places n) x ∙ ap (λ b. q x && b) (has-places n x h) ∙ and-true (q x)) xs below

-- a number below all others goes to the front
with_number-least : (x : ℕ) (ys : List ℕ) → All (λ y. x < y) ys → with_number x ys ≡ x ∷ ys
with_number-least x [] above = refl
with_number-least x (y ∷ ys) above =
    let h : x < y = All-head (λ y. x < y) y ys above in
    let t : nat_lt x y ≡ true = grind (arith, nat_tests) in
    ap (λ b. cond b (x ∷ y ∷ ys) (cond (x == y) (y ∷ ys) (y ∷ with_number x ys))) t

with_number-same : (x : ℕ) (ys : List ℕ) → with_number x (x ∷ ys) ≡ x ∷ ys
with_number-same x ys =
    let t : nat_lt x x ≡ false = grind (arith, nat_tests) in
    let e : (x == x) ≡ true = grind (arith, nat_tests) in
    ap (λ b. cond b (x ∷ x ∷ ys) (cond (x == x) (x ∷ ys) (x ∷ with_number x ys))) t ∙ ap (λ b. cond b (x ∷ ys) (x ∷ with_number x ys)) e

with_number-later : (x y : ℕ) (ys : List ℕ) → x < y → with_number y (x ∷ ys) ≡ x ∷ with_number y ys
with_number-later x y ys h =
    let t : nat_lt y x ≡ false = grind (arith, nat_tests) in
    let e : (y == x) ≡ false = grind (arith, nat_tests) in
    ap (λ b. cond b (y ∷ x ∷ ys) (cond (y == x) (x ∷ ys) (x ∷ with_number y ys))) t ∙ ap (λ b. cond b (x ∷ ys) (x ∷ with_number y ys)) e

union-least : (x : ℕ) (left right : List ℕ) → All (λ y. x < y) left → union left (x ∷ right) ≡ x ∷ union left right
union-least x [] right above = refl
union-least x (y ∷ left) right above =
    ap (with_number y) (union-least x left right (All-tail (λ y. x < y) y left above))
    ∙ with_number-later x y (union left right) (All-head (λ y. x < y) y left above)

range-above : (a n : ℕ) (p : ℕ → Bool) → All (λ y. a < y) (filter p (range_with_len (a + 1) n))
range-above a n p =
    All-filter p (λ y. a < y) (range_with_len (a + 1) n) (All-weaker (λ k. a + 1 ≤ k) (λ k. a < k) (λ k h. omega arith) (range_with_len (a + 1) n) (range-from (a + 1) n))

union-range : (p q : ℕ → Bool) (a n : ℕ) → union (filter p (range_with_len a n)) (filter q (range_with_len a n)) ≡ filter (λ x. p x || q x) (range_with_len a n)
union-range p q a zero = refl
union-range p q a (suc n) =
    let rest = range_with_len (a + 1) n in
    let ps = filter p rest in
    let qs = filter q rest in
    let both = filter (λ x. p x || q x) rest in
    let same : union ps qs ≡ both = union-range p q (a + 1) n in
    let above : All (λ y. a < y) ps = range-above a n p in
    elim (p a) as (λ b. union (cond b (a ∷ ps) ps) (cond (q a) (a ∷ qs) qs) ≡ cond (b || q a) (a ∷ both) both) [
      | true ↦
          elim (q a) as (λ c. with_number a (union ps (cond c (a ∷ qs) qs)) ≡ a ∷ both) [
            | true ↦ ap (with_number a) (union-least a ps qs above) ∙ with_number-same a (union ps qs) ∙ ap (λ l. a ∷ l) same
            | false ↦ ap (with_number a) same ∙ with_number-least a both (range-above a n (λ x. p x || q x))
          ]
      | false ↦
          elim (q a) as (λ c. union ps (cond c (a ∷ qs) qs) ≡ cond c (a ∷ both) both) [
            | true ↦ union-least a ps qs above ∙ ap (λ l. a ∷ l) same
            | false ↦ same
          ]
    ]

-- a union of the places that two tests keep
pub union-where : (p q : ℕ → Bool) (n : ℕ) → union (places_where p n) (places_where q n) ≡ places_where (λ place. p place || q place) n
union-where p q n = union-range p q 0 n

-- all of a list, and places as such
pub values_at-places : (values : List ℕ) (n : ℕ) → length values ≡ n → values_at values (places n) ≡ values
values_at-places values n long = subst (λ m. values_at values (places m) ≡ values) long (read-places 0 values)

pub values_at-all : (n : ℕ) (xs : List ℕ) → All (λ x. x < n) xs → values_at (places n) xs ≡ xs
values_at-all n xs below =
    map-same (λ x. x < n) (λ x. slice_index (places n) x) (λ x. x)
    (λ x h. Rattle.std.proofs.lemmas.List.FromFn.get_or-range_with_len 0 n x 0 h ∙ (omega arith)) xs below
    ∙ Rattle.std.proofs.lemmas.List.map-id xs

-- a projection of what a function gives of a list
pub values_at-map : {A : Type 0} (h : A → ℕ) (xs : List A) (d : A) (at : List ℕ) → All (λ place. place < length xs) at →
    values_at (map h xs) at ≡ map (λ place. h (get_or xs place d)) at
values_at-map h xs d at within =
    map-same (λ place. place < length xs) (λ place. slice_index (map h xs) place) (λ place. h (get_or xs place d)) (λ place inside. get_or-map h xs place d 0 inside) at within

-- a projection of a projection
pub values_at-values_at : (values list at : List ℕ) → All (λ place. place < length list) at → values_at (values_at values list) at ≡ values_at values (values_at list at)
values_at-values_at values list at within = values_at-map (slice_index values) list 0 at within ∙ sym (map-map (slice_index values) (λ place. slice_index list place) at)

-- what a Join of values and keys gives, read back in the lists that they came from: each item with each of its partners, in order
pub join-reads : {A C : Type 0} (f : A → ℕ) (xs : List A) (d : A) (g : ℕ → ℕ) (ps : List ℕ) (read : ℕ × ℕ → C) (k : A → ℕ → C) →
    ((i j : ℕ) → i < length xs → j < length ps → read (i, j) ≡ k (get_or xs i d) (slice_index ps j)) →
    map read (join (map f xs) (map g ps)) ≡ flat_map (λ x. map (k x) (filter (λ p. g p == f x) ps)) xs
join-reads {A = A} f xs d g ps read k same =
    let n = length xs in
    let m = length ps in
    let keys = map g ps in
    let inner : A → List _ = λ x. map (k x) (filter (λ p. g p == f x) ps) in
    let long : length (map f xs) ≡ n = length-map xs f in
    let many : length keys ≡ m = length-map ps g in
    let matched : (x : A) → map (λ j. k x (slice_index ps j)) (places_of keys (f x)) ≡ inner x =
    λ x.
    ap (map (λ j. k x (slice_index ps j)))
    (ap (places_where (λ key. slice_index keys key == f x)) many
    ∙ places_where-same (λ key. slice_index keys key == f x) (λ key. g (slice_index ps key) == f x) m (λ j inside. ap (λ v. v == f x) (get_or-map g ps j 0 0 inside)))
    ∙ sym (map-map (k x) (slice_index ps) (places_where (λ key. g (slice_index ps key) == f x) m))
    ∙ ap (map (k x)) (read-places-where 0 (λ p. g p == f x) ps) in
    let here : (i : ℕ) → i < n → map read (map (λ key. (i, key)) (places_of keys (slice_index (map f xs) i))) ≡ inner (get_or xs i d) =
    λ i inside.
    map-map read (λ key. (i, key)) (places_of keys (slice_index (map f xs) i))
    ∙ ap (λ v. map (λ j. read (i, j)) (places_of keys v)) (get_or-map f xs i d 0 inside)
    ∙ map-same (λ j. j < m) (λ j. read (i, j)) (λ j. k (get_or xs i d) (slice_index ps j)) (λ j within. same i j inside within)
    (places_of keys (f (get_or xs i d)))
    (subst (λ l. All (λ j. j < l) (places_of keys (f (get_or xs i d)))) many (places_where-below (λ key. slice_index keys key == f (get_or xs i d)) (length keys)))
    ∙ matched (get_or xs i d) in
    map-flat_map read (λ place. map (λ key. (place, key)) (places_of keys (slice_index (map f xs) place))) (places (length (map f xs)))
    ∙ ap (λ l. flat_map (λ place. map read (map (λ key. (place, key)) (places_of keys (slice_index (map f xs) place)))) (places l)) long
    ∙ flat_map-same (λ i. i < n) (λ place. map read (map (λ key. (place, key)) (places_of keys (slice_index (map f xs) place)))) (λ place. inner (get_or xs place d)) here (places n) (places-below n)
    ∙ read-places-flat d inner xs
