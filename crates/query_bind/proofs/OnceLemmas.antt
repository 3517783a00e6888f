-- A list in order, with each item once, is told by the items that it has.
use Rattle.std.proofs.Common.{◌≡◌, zero, suc, Bool, true, false, List, [], ◌∷◌, ◌++◌, map, inl, inr, ◌⊎◌, refl, sym, ap, ◌∙◌, subst, arith, true≢false, cond}
use Rattle.std.specs.declared.cmp.Ordering.{Ordering}
use Rattle.std.specs.declared.cmp.Ordering.TheVariants.{Less}
use Rattle.std.specs.List.{AllByRecursion, Contains, AllPairs, filter, flat_map, list_any}
use Rattle.std.specs.List.Sorted.{IsStrictlySortedBy}
use Rattle.std.specs.Cmp.{IsTotalOrder}
use Rattle.std.specs.Ordering.{is_lt}
use Rattle.std.proofs.lemmas.Bool.{or_left, or_right}
use Rattle.std.proofs.lemmas.List.Elements.{recursion_from_All, Contains-append_left, Contains-append_right, All-filter, All-contains, All-contains_itself, filter_passes}

-- ---- members, item by item

abbrev Among : {X : Type 0} → X → List X → Type 0
Among x [] = ⊥
Among x (y ∷ ys) = (y ≡ x) ⊎ Among x ys

among : {X : Type 0} (x : X) (xs : List X) → Contains xs x → Among x xs
among x [] (k, within, is) = absurd (omega (arith, within))
among x (y ∷ ys) (zero, within, is) = inl is
among x (y ∷ ys) (suc k, within, is) = inr (among x ys (k, omega (arith, within), is))

pub contains_later : {X : Type 0} (x y : X) (ys : List X) → Contains ys x → Contains (y ∷ ys) x
contains_later x y ys (k, within, is) = (suc k, omega (arith, within), is)

contains : {X : Type 0} (x : X) (xs : List X) → Among x xs → Contains xs x
contains x [] there = absurd there
contains x (y ∷ ys) (inl same) = (0, omega arith, same)
contains x (y ∷ ys) (inr there) = contains_later x y ys (contains x ys there)

pub holds_of : {X : Type 0} (P : X → Type 0) (x : X) (xs : List X) → AllByRecursion P xs → Contains xs x → P x
holds_of P x xs all there = at x xs all (among x xs there) where
  at : (z : _) (zs : List _) → AllByRecursion P zs → Among z zs → P z
  at z [] all there = absurd there
  at z (y ∷ ys) all (inl same) = subst P same all.0
  at z (y ∷ ys) all (inr there) = at z ys all.1 there

pub all_append : {X : Type 0} (P : X → Type 0) (xs ys : List X) → AllByRecursion P xs → AllByRecursion P ys → AllByRecursion P (xs ++ ys)
all_append P [] ys a b = b
all_append P (x ∷ xs) ys a b = (a.0, all_append P xs ys a.1 b)

pub all_map : {X Y : Type 0} (P : Y → Type 0) (f : X → Y) (xs : List X) → AllByRecursion (λ x. P (f x)) xs → AllByRecursion P (map f xs)
all_map P f [] all = tt
all_map P f (x ∷ xs) all = (all.0, all_map P f xs all.1)

pub all_flat_map : {X Y : Type 0} (P : Y → Type 0) (f : X → List Y) (xs : List X) → AllByRecursion (λ x. AllByRecursion P (f x)) xs → AllByRecursion P (flat_map f xs)
all_flat_map P f [] all = tt
all_flat_map P f (x ∷ xs) all = all_append P (f x) (flat_map f xs) all.0 (all_flat_map P f xs all.1)

pub all_weaker : {X : Type 0} (P Q : X → Type 0) → ((x : X) → P x → Q x) → (xs : List X) → AllByRecursion P xs → AllByRecursion Q xs
all_weaker P Q weaker [] all = tt
all_weaker P Q weaker (x ∷ xs) all = (weaker x all.0, all_weaker P Q weaker xs all.1)

-- what holds of each member
pub all_members : {X : Type 0} (P : X → Type 0) (xs : List X) → ((x : X) → Contains xs x → P x) → AllByRecursion P xs
all_members P [] of = tt
all_members P (x ∷ xs) of = (of x (0, omega arith, refl), all_members P xs (λ y there. of y (contains_later y x xs there)))

pub contains_map : {X Y : Type 0} (f : X → Y) (x : X) (xs : List X) → Contains xs x → Contains (map f xs) (f x)
contains_map {X} {Y} f x xs there = contains (f x) (map f xs) (at xs (among x xs there)) where
  at : (zs : List X) → Among x zs → Among (f x) (map f zs)
  at [] there = absurd there
  at (z ∷ zs) (inl same) = inl (ap f same)
  at (z ∷ zs) (inr there) = inr (at zs there)

pub contains_flat_map : {X Y : Type 0} (f : X → List Y) (x : X) (y : Y) (xs : List X) → Contains xs x → Contains (f x) y → Contains (flat_map f xs) y
contains_flat_map {X} {Y} f x y xs there within = at xs (among x xs there) where
  at : (zs : List X) → Among x zs → Contains (flat_map f zs) y
  at [] there = absurd there
  at (z ∷ zs) (inl same) = Contains-append_left (f z) (flat_map f zs) y (rw same within)
  at (z ∷ zs) (inr there) = Contains-append_right (f z) (flat_map f zs) y (at zs there)

-- a test by equality finds just the members
pub any_of_member : {X : Type 0} (eq : X → X → Bool) (x : X) (xs : List X) → eq x x ≡ true → Contains xs x → list_any (eq x) xs ≡ true
any_of_member {X} eq x xs itself there = at xs (among x xs there) where
  at : (zs : List X) → Among x zs → list_any (eq x) zs ≡ true
  at [] there = absurd there
  at (z ∷ zs) (inl same) = or_left (eq x z) (list_any (eq x) zs) (rw same itself)
  at (z ∷ zs) (inr there) = or_right (eq x z) (list_any (eq x) zs) (at zs there)

-- ---- what a filter leaves

pub in_filter : {X : Type 0} (p : X → Bool) (x : X) (xs : List X) → Contains xs x → p x ≡ true → Contains (filter p xs) x
in_filter p x xs there passes = contains x (filter p xs) (at x xs passes (among x xs there)) where
  at : (z : _) (zs : List _) → p z ≡ true → Among z zs → Among z (filter p zs)
  at z [] passes there = absurd there
  at z (y ∷ ys) passes (inl same) = rw (same, passes) (inl refl)
  at z (y ∷ ys) passes (inr there) = kept (p y) (at z ys passes there) where
    kept : (b : Bool) → Among z (filter p ys) → Among z (cond b (y ∷ filter p ys) (filter p ys))
    kept true there = inr there
    kept false there = there

pub from_filter : {X : Type 0} (p : X → Bool) (x : X) (xs : List X) → Contains (filter p xs) x → Contains xs x
from_filter p x xs there = All-contains (Contains xs) (filter p xs) x (All-filter p (Contains xs) xs (All-contains_itself xs)) there

pub passes_filter : {X : Type 0} (p : X → Bool) (x : X) (xs : List X) → Contains (filter p xs) x → p x ≡ true
passes_filter p x xs there = All-contains (λ y. p y ≡ true) (filter p xs) x (filter_passes p xs) there

-- ---- lists in order

module _ {X : Type 0} {cmp : X → X → Ordering} (o : IsTotalOrder cmp) where
  never_before_itself : (x : X) → cmp x x ≡ Less → ⊥
  never_before_itself x before =
      true≢false (sym (ap is_lt before) ∙ ap is_lt (o.antisymm x x) ∙ rw before refl)

  never_both : (x y : X) → cmp x y ≡ Less → cmp y x ≡ Less → ⊥
  never_both x y before after = never_before_itself x (o.trans x y x before after)

  above : (x y : X) (ys : List X) → AllByRecursion (λ z. cmp x z ≡ Less) ys → Among y ys → cmp x y ≡ Less
  above x y [] all there = absurd there
  above x y (z ∷ ys) all (inl same) = rw (← same) all.0
  above x y (z ∷ ys) all (inr there) = above x y ys all.1 there

  heads : (x y : X) (xs ys : List X) → AllByRecursion (λ z. cmp x z ≡ Less) xs → AllByRecursion (λ z. cmp y z ≡ Less) ys
      → Among x (y ∷ ys) → Among y (x ∷ xs) → x ≡ y
  heads x y xs ys after_x after_y (inl same) there = sym same
  heads x y xs ys after_x after_y (inr behind) (inl same) = same
  heads x y xs ys after_x after_y (inr behind) (inr other) = absurd (never_both x y (above x y xs after_x other) (above y x ys after_y behind))

  -- what stands behind one head stands behind the other, which is the same
  tail : (x y z : X) (xs ys : List X) → x ≡ y → AllByRecursion (λ w. cmp x w ≡ Less) xs → Among z xs → Among z (y ∷ ys) → Among z ys
  tail x y z xs ys same after there (inl head) = absurd (never_before_itself z (subst (λ w. cmp w z ≡ Less) (same ∙ head) (above x z xs after there)))
  tail x y z xs ys same after there (inr behind) = behind

  equal : (xs ys : List X) → IsStrictlySortedBy cmp xs → IsStrictlySortedBy cmp ys → ((z : X) → Among z xs → Among z ys) → ((z : X) → Among z ys → Among z xs) → xs ≡ ys
  unfolding IsStrictlySortedBy
  equal [] [] rise rises to from = refl
  equal [] (y ∷ ys) rise rises to from = absurd (from y (inl refl))
  equal (x ∷ xs) [] rise rises to from = absurd (to x (inl refl))
  equal (x ∷ xs) (y ∷ ys) rise rises to from =
      let same = heads x y xs ys rise.0 rises.0 (to x (inl refl)) (from y (inl refl)) in
      let rest = equal xs ys rise.1 rises.1 (λ z there. tail x y z xs ys same rise.0 there (to z (inr there))) (λ z there. tail y x z ys xs (sym same) rises.0 there (from z (inr there))) in
      rw (same, rest) refl

  pub equal_once : (xs ys : List X) → IsStrictlySortedBy cmp xs → IsStrictlySortedBy cmp ys
      → ((z : X) → Contains xs z → Contains ys z) → ((z : X) → Contains ys z → Contains xs z) → xs ≡ ys
  equal_once xs ys rise rises to from =
      equal xs ys rise rises (λ z there. among z ys (to z (contains z xs there))) (λ z there. among z xs (from z (contains z ys there)))

-- what each item has with each later one
pub sorted_of : {X : Type 0} (cmp : X → X → Ordering) (xs : List X) → AllPairs (λ x y. cmp x y ≡ Less) xs → IsStrictlySortedBy cmp xs
unfolding IsStrictlySortedBy
sorted_of cmp [] pairs = tt
sorted_of cmp (x ∷ xs) pairs = (
  recursion_from_All (λ y. cmp x y ≡ Less) xs (λ k d within. pairs 0 (suc k) d (omega arith) (omega (arith, within))),
  sorted_of cmp xs (λ i j d before within. pairs (suc i) (suc j) d (omega (arith, before)) (omega (arith, within))),
)
