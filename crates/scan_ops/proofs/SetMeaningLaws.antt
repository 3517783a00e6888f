-- Intersections and unions of rising lists are told by their members.
use Rattle.std.proofs.Common.{◌≡◌, ℕ, zero, suc, ◌<◌, true, false, cond, List, [], ◌∷◌, refl, sym, ap, ◌∙◌, subst, All, arith, inl, inr, add-one}
use Rattle.std.specs.Prelude.{◌||◌, ◌==◌, ◌⊎◌, nat_lt, Contains}
use Rattle.std.proofs.lemmas.Bool.{cases_lt, cases_eq}
use Rattle.std.proofs.lemmas.Bool.Decides.{nat_tests, Decides-eqb}
use Rattle.std.proofs.lemmas.List.Elements.{All-head, All-cons, All-contains, All-contains_itself, All-filter, All-weaker, filter_passes}
use Rattle.std.proofs.lemmas.List.Kept.{IsStrictlyIncreasing-filter}
use Rattle.std.proofs.lemmas.Map.Views.{Contains-from_any}
use Rattle.definitions_operators.specs.Operators.{has, intersect, with_number, union}
use Rattle.definitions_operators.specs.Positions.{Rises}
use Rattle.definitions_operators.proofs.ListLaws.{Contains-head, Contains-cons, Contains-nil, Contains-cons_cases, Contains-filter}
use Rattle.scan_ops.specs.Laws.{IntersectionsHaveBoth, UnionsHaveEither}
use Rattle.scan_ops.proofs.SetLaws.{rises-tail, rises-above, with_number-All}

-- # Intersections

from_has : (xs : List ℕ) (x : ℕ) → has xs x ≡ true → Contains xs x
from_has xs x found = Contains-from_any {eq = λ a b. b == a} (λ a b same. sym ((Decides-eqb b a).0 same)) x xs found

to_has : (xs : List ℕ) (x : ℕ) → Contains xs x → has xs x ≡ true
to_has [] x among = absurd (Contains-nil x among)
to_has (y ∷ xs) x among =
    elim (Contains-cons_cases y xs x among) [
      | inl here ↦ ap (λ b. b || has xs x) ((Decides-eqb y x).1 here)
      | inr later ↦ ap (λ b. (y == x) || b) (to_has xs x later) ∙ (elim (y == x) as (λ b. (b || true) ≡ true) [ true ↦ refl | false ↦ refl ])
    ]

pub intersections_have_both : IntersectionsHaveBoth
intersections_have_both left right rises also = (
  IsStrictlyIncreasing-filter (has right) left rises,
  λ number. (
    λ among. (
      All-contains (Contains left) (intersect left right) number (All-filter (has right) (Contains left) left (All-contains_itself left)) among,
      from_has right number (All-contains (λ x. has right x ≡ true) (intersect left right) number (filter_passes (has right) left) among),
    ),
    λ both. Contains-filter (has right) left number (to_has right number both.1) both.0,
  ),
)

-- # Unions

-- a number below all those of a rising list goes before them
rises-cons : (x : ℕ) (xs : List ℕ) → All (λ y. x < y) xs → Rises xs → Rises (x ∷ xs)
rises-cons x [] above rises k within = absurd (omega arith)
rises-cons x (y ∷ xs) above rises zero within = All-head (λ y. x < y) y xs above
rises-cons x (y ∷ xs) above rises (suc k) within = rw add-one (rw add-one at (rises k (omega arith)))

with_number-rises : (x : ℕ) (ys : List ℕ) → Rises ys → Rises (with_number x ys)
with_number-rises x [] rises = λ k within. absurd (omega arith)
with_number-rises x (y ∷ ys) rises =
    let tail = rises-tail y ys rises in
    let above = rises-above y ys rises in
    elim (cases_lt x y) [
      | inl less ↦
          let first : nat_lt x y ≡ true = grind (arith, nat_tests) in
          subst (λ b. Rises (cond b (x ∷ y ∷ ys) (cond (x == y) (y ∷ ys) (y ∷ with_number x ys)))) (sym first)
          (rises-cons x (y ∷ ys) (All-cons (λ z. x < z) y ys less (All-weaker (λ z. y < z) (λ z. x < z) (λ z h. omega arith) ys above)) rises)
      | inr not_less ↦
          let first : nat_lt x y ≡ false = grind (arith, nat_tests) in
          subst (λ b. Rises (cond b (x ∷ y ∷ ys) (cond (x == y) (y ∷ ys) (y ∷ with_number x ys)))) (sym first)
          (elim (cases_eq x y) [
            | inl same ↦ subst (λ b. Rises (cond b (y ∷ ys) (y ∷ with_number x ys))) (sym ((Decides-eqb x y).1 same)) rises
            | inr other ↦
                let second : (x == y) ≡ false = grind (arith, nat_tests) in
                let greater : y < x = omega arith in
                subst (λ b. Rises (cond b (y ∷ ys) (y ∷ with_number x ys))) (sym second)
                (rises-cons y (with_number x ys) (with_number-All (λ z. y < z) x ys greater above) (with_number-rises x ys tail))
          ])
    ]

union-rises : (left right : List ℕ) → Rises right → Rises (union left right)
union-rises [] right rises = rises
union-rises (x ∷ left) right rises = with_number-rises x (union left right) (union-rises left right rises)

with_number-itself : (x : ℕ) (ys : List ℕ) → Contains (with_number x ys) x
with_number-itself x [] = Contains-head x []
with_number-itself x (y ∷ ys) =
    elim (nat_lt x y) as (λ b. Contains (cond b (x ∷ y ∷ ys) (cond (x == y) (y ∷ ys) (y ∷ with_number x ys))) x) [
      | true ↦ Contains-head x (y ∷ ys)
      | false ↦
          elim (cases_eq x y) [
            | inl same ↦
                subst (λ b. Contains (cond b (y ∷ ys) (y ∷ with_number x ys)) x) (sym ((Decides-eqb x y).1 same))
                (subst (Contains (y ∷ ys)) (sym same) (Contains-head y ys))
            | inr other ↦
                let second : (x == y) ≡ false = grind (arith, nat_tests) in
                subst (λ b. Contains (cond b (y ∷ ys) (y ∷ with_number x ys)) x) (sym second)
                (Contains-cons y (with_number x ys) x (with_number-itself x ys))
          ]
    ]

with_number-keeps : (x : ℕ) (ys : List ℕ) (z : ℕ) → Contains ys z → Contains (with_number x ys) z
with_number-keeps x [] z among = absurd (Contains-nil z among)
with_number-keeps x (y ∷ ys) z among =
    elim (nat_lt x y) as (λ b. Contains (cond b (x ∷ y ∷ ys) (cond (x == y) (y ∷ ys) (y ∷ with_number x ys))) z) [
      | true ↦ Contains-cons x (y ∷ ys) z among
      | false ↦
          elim (x == y) as (λ b. Contains (cond b (y ∷ ys) (y ∷ with_number x ys)) z) [
            | true ↦ among
            | false ↦
                elim (Contains-cons_cases y ys z among) [
                  | inl here ↦ subst (Contains (y ∷ with_number x ys)) here (Contains-head y (with_number x ys))
                  | inr later ↦ Contains-cons y (with_number x ys) z (with_number-keeps x ys z later)
                ]
          ]
    ]

-- a union has no others
union-from : (left right : List ℕ) → All (λ z. Contains left z ⊎ Contains right z) (union left right)
union-from [] right = All-weaker (Contains right) (λ z. Contains [] z ⊎ Contains right z) (λ z among. inr among) right (All-contains_itself right)
union-from (x ∷ left) right =
    with_number-All (λ z. Contains (x ∷ left) z ⊎ Contains right z) x (union left right) (inl (Contains-head x left))
    (All-weaker (λ z. Contains left z ⊎ Contains right z) (λ z. Contains (x ∷ left) z ⊎ Contains right z)
    (λ z among. elim among [ inl first ↦ inl (Contains-cons x left z first) | inr second ↦ inr second ])
    (union left right) (union-from left right))

union-left : (left right : List ℕ) (z : ℕ) → Contains left z → Contains (union left right) z
union-left [] right z among = absurd (Contains-nil z among)
union-left (x ∷ left) right z among =
    elim (Contains-cons_cases x left z among) [
      | inl here ↦ subst (Contains (with_number x (union left right))) here (with_number-itself x (union left right))
      | inr later ↦ with_number-keeps x (union left right) z (union-left left right z later)
    ]

union-right : (left right : List ℕ) (z : ℕ) → Contains right z → Contains (union left right) z
union-right [] right z among = among
union-right (x ∷ left) right z among = with_number-keeps x (union left right) z (union-right left right z among)

pub unions_have_either : UnionsHaveEither
unions_have_either left right rises also = (
  union-rises left right also,
  λ number. (
    λ among. All-contains (λ z. Contains left z ⊎ Contains right z) (union left right) number (union-from left right) among,
    λ either. elim either [ inl first ↦ union-left left right number first | inr second ↦ union-right left right number second ],
  ),
)
