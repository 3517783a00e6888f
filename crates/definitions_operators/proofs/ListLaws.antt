-- Filters and maps of lists, members, and rising lists.
use Rattle.std.proofs.Common.{◌≡◌, ◌∙◌, ap, ap₂, refl, sym, subst, ℕ, suc, ◌<◌, Bool, true, false, cond, All, List, [], ◌∷◌, map, get_or, arith, inl, inr, ◌⊎◌, add-one}
use Rattle.std.specs.Prelude.{filter, Contains}
use Rattle.std.proofs.lemmas.List.Elements.{All-head, All-tail, Contains-append_right, Contains-append_cases}
use Rattle.std.proofs.lemmas.List.Kept.{AllPairs-from_increasing}
use Rattle.definitions_operators.specs.Positions.{Rises}

pub filter-map : {A B : Type 0} (test : B → Bool) (f : A → B) (xs : List A) → filter test (map f xs) ≡ map f (filter (λ x. test (f x)) xs)
filter-map test f [] = refl
filter-map test f (x ∷ xs) =
    let rest = filter (λ x. test (f x)) xs in
    ap (λ l. cond (test (f x)) (f x ∷ l) l) (filter-map test f xs)
    ∙ (elim (test (f x)) as (λ b. cond b (f x ∷ map f rest) (map f rest) ≡ map f (cond b (x ∷ rest) rest)) [ true ↦ refl | false ↦ refl ])

-- two tests that agree on a list's elements keep the same ones
pub filter-same : {A : Type 0} (P : A → Type 0) (p q : A → Bool) → ((x : A) → P x → p x ≡ q x) → (xs : List A) → All P xs → filter p xs ≡ filter q xs
filter-same P p q same [] all = refl
filter-same P p q same (x ∷ xs) all =
    ap (λ b. cond b (x ∷ filter p xs) (filter p xs)) (same x (All-head P x xs all))
    ∙ ap (λ l. cond (q x) (x ∷ l) l) (filter-same P p q same xs (All-tail P x xs all))

-- a test that nothing passes keeps nothing
pub filter-none : {A : Type 0} (test : A → Bool) → ((x : A) → test x ≡ false) → (xs : List A) → filter test xs ≡ []
filter-none test none [] = refl
filter-none test none (x ∷ xs) = ap (λ b. cond b (x ∷ filter test xs) (filter test xs)) (none x) ∙ filter-none test none xs

pub Contains-head : {A : Type 0} (x : A) (xs : List A) → Contains (x ∷ xs) x
Contains-head x xs = (0, omega arith, refl)

pub Contains-cons : {A : Type 0} (y : A) (xs : List A) (x : A) → Contains xs x → Contains (y ∷ xs) x
Contains-cons y xs x among = Contains-append_right (y ∷ []) xs x among

pub Contains-nil : {A : Type 0} (x : A) → Contains (let none : List A = [] in none) x → ⊥
Contains-nil x among = omega (arith, among.1)

Contains-one : {A : Type 0} (y x : A) → Contains (y ∷ []) x → y ≡ x
Contains-one y x among = subst (λ k. get_or (y ∷ []) k x ≡ x) (let first : among.0 ≡ 0 = omega (arith, among.1) in first) among.2

pub Contains-cons_cases : {A : Type 0} (y : A) (xs : List A) (x : A) → Contains (y ∷ xs) x → (y ≡ x) ⊎ Contains xs x
Contains-cons_cases y xs x among =
    elim (Contains-append_cases (y ∷ []) xs x among) [ inl here ↦ inl (Contains-one y x here) | inr later ↦ inr later ]

-- what passes the test stays
pub Contains-filter : {A : Type 0} (test : A → Bool) (xs : List A) (x : A) → test x ≡ true → Contains xs x → Contains (filter test xs) x
Contains-filter test [] x passes among = absurd (Contains-nil x among)
Contains-filter test (y ∷ xs) x passes among =
    elim (Contains-cons_cases y xs x among) [
      | inl here ↦
          subst (λ b. Contains (cond b (y ∷ filter test xs) (filter test xs)) x) (sym (ap test here ∙ passes))
          (subst (Contains (y ∷ filter test xs)) here (Contains-head y (filter test xs)))
      | inr later ↦
          let rest = Contains-filter test xs x passes later in
          (elim (test y) as (λ b. Contains (cond b (y ∷ filter test xs) (filter test xs)) x) [ true ↦ Contains-cons y (filter test xs) x rest | false ↦ rest ])
    ]

-- a rising list begins with its least number, and what follows rises
head-below : (x : ℕ) (xs : List ℕ) → Rises (x ∷ xs) → (y : ℕ) → Contains xs y → x < y
head-below x xs rises y among =
    let pairs = AllPairs-from_increasing (x ∷ xs) rises in
    subst (λ z. x < z) among.2 (pairs 0 (suc among.0) y (omega arith) (omega (arith, among.1)))

tail-rises : (x : ℕ) (xs : List ℕ) → Rises (x ∷ xs) → Rises xs
tail-rises x xs rises k within = rw add-one (rw add-one at (rises (suc k) (omega arith)))

later_member : (x y z : ℕ) (ys : List ℕ) → x ≡ y → x < z → Contains (y ∷ ys) z → Contains ys z
later_member x y z ys same above among =
    elim (Contains-cons_cases y ys z among) [ inl here ↦ absurd (omega (arith, here)) | inr later ↦ later ]

-- rising lists with the same members are one list
pub rising-same : (xs ys : List ℕ) → Rises xs → Rises ys → ((z : ℕ) → Contains xs z → Contains ys z) → ((z : ℕ) → Contains ys z → Contains xs z) → xs ≡ ys
rising-same [] [] up vp to from = refl
rising-same [] (y ∷ ys) up vp to from = absurd (Contains-nil y (from y (Contains-head y ys)))
rising-same (x ∷ xs) [] up vp to from = absurd (Contains-nil x (to x (Contains-head x xs)))
rising-same (x ∷ xs) (y ∷ ys) up vp to from =
    let first : x ≡ y =
    elim (Contains-cons_cases y ys x (to x (Contains-head x xs))) [
      | inl here ↦ sym here
      | inr later ↦
          elim (Contains-cons_cases x xs y (from y (Contains-head y ys))) [
            | inl here ↦ here
            | inr other ↦ let a = head-below y ys vp x later in let b = head-below x xs up y other in absurd (omega arith)
          ]
    ] in
    ap₂ (λ z l. z ∷ l) first
    (rising-same xs ys (tail-rises x xs up) (tail-rises y ys vp)
    (λ z among. later_member x y z ys first (head-below x xs up z among) (to z (Contains-cons x xs z among)))
    (λ z among. later_member y x z xs (sym first) (head-below y ys vp z among) (from z (Contains-cons y ys z among))))
