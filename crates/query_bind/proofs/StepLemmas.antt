-- What steps that all went on leave: the values in between, and what each step keeps.
use Rattle.std.proofs.Common.{◌≡◌, ℕ, ◌+◌, Bool, true, false, List, [], ◌∷◌, ◌++◌, length, map, filter, Some, None, refl, ap, subst, cond, arith}
use Rattle.std.specs.Prelude.{Option, Result, Ok, Err, ok_or}
use Rattle.std.specs.List.{AllByRecursion, Contains, flat_map, find, zip}
use Rattle.definitions_outcomes.specs.Computed.{bind, walk}
use Rattle.definitions_outcomes.proofs.OutcomeLaws.{same_value}
use Rattle.definitions_queries.specs.Entries.{total}
use Rattle.query_bind.specs.Steps.{accumulate}
use Rattle.query_bind.proofs.OnceLemmas.{contains_later}

-- ---- one step

pub bind_went_on : {A B E : Type 0} (first : Result A E) (next : A → Result B E) (value : B) → bind first next ≡ Ok value → (a : A) × (first ≡ Ok a) × (next a ≡ Ok value)
bind_went_on (Ok a) next value is = (a, refl, is)
bind_went_on (Err refusal) next value is = absurd (cc)

pub ok_or_is : {A E : Type 0} (found : Option A) (refusal : E) (value : A) → ok_or found refusal ≡ Ok value → found ≡ Some value
ok_or_is (Some a) refusal value is = ap (λ one. Some one) (same_value a value is)
ok_or_is None refusal value is = absurd (cc)

-- a test that would have refused
pub passed_unless : {A E : Type 0} (refuses : Bool) (refusal : E) (given value : A) → cond refuses (Err refusal) (Ok given) ≡ Ok value → (refuses ≡ false) × (given ≡ value)
passed_unless true refusal given value is = absurd (cc)
passed_unless false refusal given value is = (refl, same_value given value is)

pub passed_if : {A E : Type 0} (passes : Bool) (refusal : E) (given value : A) → cond passes (Ok given) (Err refusal) ≡ Ok value → (passes ≡ true) × (given ≡ value)
passed_if true refusal given value is = (refl, same_value given value is)
passed_if false refusal given value is = absurd (cc)

-- ---- many steps

module _ {S A E : Type 0} (step : S → A → Result S E) (P : S → Type 0) (Q : A → Type 0) (keeps : (state : S) (item : A) (next : S) → Q item → P state → step state item ≡ Ok next → P next) where
  pub kept : (items : List A) → AllByRecursion Q items → (state end : S) → P state → accumulate step state items ≡ Ok end → P end
  kept [] all state end holds is = subst P (same_value state end is) holds
  kept (item ∷ rest) all state end holds is =
      let (next, went, after) = bind_went_on (step state item) (λ one. accumulate step one rest) end is in
      kept rest all.1 next end (keeps state item next all.0 holds went) after

-- a size that each step adds to
module _ {S A E : Type 0} (step : S → A → Result S E) (size : S → ℕ) (adds : A → ℕ) (Q : A → Type 0)
    (grows : (state : S) (item : A) (next : S) → Q item → step state item ≡ Ok next → size next ≡ size state + adds item) where
  pub grown : (items : List A) → AllByRecursion Q items → (state end : S) → accumulate step state items ≡ Ok end → size end ≡ size state + total adds items
  grown [] all state end is = omega (arith, ap size (same_value state end is))
  grown (item ∷ rest) all state end is =
      let (next, went, after) = bind_went_on (step state item) (λ one. accumulate step one rest) end is in
      omega (arith, grows state item next all.0 went, grown rest all.1 next end after)

-- each item of a walk went on, and gave one value
pub walked : {A B E : Type 0} (step : A → Result B E) (P : B → Type 0) → ((item : A) (value : B) → step item ≡ Ok value → P value)
    → (items : List A) (number : ℕ) (values : List B) → walk (λ (n : ℕ). step) number items ≡ Ok values → AllByRecursion P values × (length values ≡ length items)
walked {A} {B} {E} step P holds [] number values is = rw (← same_value ([]) values is) (tt, refl)
walked {A} {B} {E} step P holds (item ∷ rest) number values is =
    let (first, went, after) = bind_went_on (step item) _ values is in
    let (more, walked_on, last) = bind_went_on (walk (λ (n : ℕ). step) (number + 1) rest) _ values after in
    let (all, count) = walked step P holds rest (number + 1) more walked_on in
    rw (← same_value (first ∷ more) values last) ((holds item first went, all), omega (arith, count))

pub walked_all : {A B E : Type 0} (step : A → Result B E) (Q : A → Type 0) → ((item : A) (value : B) → step item ≡ Ok value → Q item)
    → (items : List A) (number : ℕ) (values : List B) → walk (λ (n : ℕ). step) number items ≡ Ok values → AllByRecursion Q items
walked_all step Q holds [] number values is = tt
walked_all step Q holds (item ∷ rest) number values is =
    let (first, went, after) = bind_went_on (step item) _ values is in
    let (more, walked_on, last) = bind_went_on (walk (λ (n : ℕ). step) (number + 1) rest) _ values after in
    (holds item first went, walked_all step Q holds rest (number + 1) more walked_on)

-- what each value shares with its item
pub walked_map : {A B C E : Type 0} (step : A → Result B E) (of_item : A → C) (of_value : B → C) → ((item : A) (value : B) → step item ≡ Ok value → of_value value ≡ of_item item)
    → (items : List A) (number : ℕ) (values : List B) → walk (λ (n : ℕ). step) number items ≡ Ok values → map of_value values ≡ map of_item items
walked_map step of_item of_value shares [] number values is = rw (← same_value ([]) values is) refl
walked_map step of_item of_value shares (item ∷ rest) number values is =
    let (first, went, after) = bind_went_on (step item) _ values is in
    let (more, walked_on, last) = bind_went_on (walk (λ (n : ℕ). step) (number + 1) rest) _ values after in
    rw (← same_value (first ∷ more) values last, shares item first went, walked_map step of_item of_value shares rest (number + 1) more walked_on) refl

-- ---- lists

pub filter_map_both : {X Y : Type 0} (test : Y → Bool) (see : X → Y) (xs : List X) → filter test (map see xs) ≡ map see (filter (λ x. test (see x)) xs)
filter_map_both test see [] = refl
filter_map_both {X} {Y} test see (x ∷ xs) = by (test (see x)) (filter_map_both test see xs) where
  by : (passes : Bool) → filter test (map see xs) ≡ map see (filter (λ x. test (see x)) xs)
      → cond passes (see x ∷ filter test (map see xs)) (filter test (map see xs)) ≡ map see (cond passes (x ∷ filter (λ x. test (see x)) xs) (filter (λ x. test (see x)) xs))
  by true rest = ap (λ more. see x ∷ more) rest
  by false rest = rest

pub zip_seconds : {X Y : Type 0} (xs : List X) (ys : List Y) → length xs ≡ length ys → map (λ (pair : X × Y). pair.1) (zip xs ys) ≡ ys
zip_seconds [] [] same = refl
zip_seconds [] (y ∷ ys) same = absurd (omega (arith, same))
zip_seconds (x ∷ xs) [] same = absurd (omega (arith, same))
zip_seconds (x ∷ xs) (y ∷ ys) same = ap (λ more. y ∷ more) (zip_seconds xs ys (omega (arith, same)))

pub total_ones : {A : Type 0} (xs : List A) → total (λ (a : A). 1) xs ≡ length xs
total_ones [] = refl
total_ones (x ∷ xs) = omega (arith, total_ones xs)

pub all_split : {X : Type 0} (P : X → Type 0) (xs ys : List X) → AllByRecursion P (xs ++ ys) → AllByRecursion P xs × AllByRecursion P ys
all_split P [] ys all = (tt, all)
all_split P (x ∷ xs) ys all = let (front, back) = all_split P xs ys all.1 in ((all.0, front), back)

pub all_pieces : {X Y : Type 0} (P : Y → Type 0) (f : X → List Y) (xs : List X) → AllByRecursion P (flat_map f xs) → AllByRecursion (λ x. AllByRecursion P (f x)) xs
all_pieces P f [] all = tt
all_pieces P f (x ∷ xs) all = let (first, rest) = all_split P (f x) (flat_map f xs) all in (first, all_pieces P f xs rest)

pub all_both : {X : Type 0} (P Q : X → Type 0) (xs : List X) → AllByRecursion P xs → AllByRecursion Q xs → AllByRecursion (λ x. P x × Q x) xs
all_both P Q [] all too = tt
all_both P Q (x ∷ xs) all too = ((all.0, too.0), all_both P Q xs all.1 too.1)

found_by : {X : Type 0} (test : X → Bool) (y : X) (ys : List X) (x : X) → ((x : X) → find test ys ≡ Some x → Contains ys x × (test x ≡ true)) → (passes : Bool) → test y ≡ passes
    → cond passes (Some y) (find test ys) ≡ Some x → Contains (y ∷ ys) x × (test x ≡ true)
found_by test y ys x later true passes found = let same : y ≡ x = cc in ((0, omega arith, same), rw (← same) passes)
found_by test y ys x later false fails found = let (there, passes) = later x found in (contains_later x y ys there, passes)

pub found_there : {X : Type 0} (test : X → Bool) (xs : List X) (x : X) → find test xs ≡ Some x → Contains xs x × (test x ≡ true)
found_there test [] x is = absurd (cc)
found_there test (y ∷ ys) x is = found_by test y ys x (found_there test ys) (test y) refl is
