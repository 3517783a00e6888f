-- Intersections and unions of rising lists, one number after the other.
use Rattle.std.proofs.Common.{◌≡◌, ℕ, zero, suc, ◌+◌, ◌-◌, ◌<◌, ◌≤◌, Bool, true, false, cond, List, [], ◌∷◌, ◌++◌, length, get_or, set, take, drop, refl, sym, ap, ap₂, ◌∙◌, subst, All, arith, inl, inr, append_assoc, append-nil, add-one}
use mir.Val.{bool_byte}
use Rattle.std.specs.Prelude.{◌||◌, ◌==◌, nat_lt, nat_le, nat_eq, min, filter, ◌⊎◌}
use Rattle.std.proofs.lemmas.Bool.{cases_lt, cases_eq}
use Rattle.std.proofs.lemmas.Bool.Decides.{nat_tests, Decides-eqb}
use Rattle.std.proofs.Math.Seq.{take-suc-set}
use Rattle.std.proofs.lemmas.List.{drop_more, drop_all, length-drop, take_all, take-set}
use Rattle.std.proofs.lemmas.List.Elements.{All-head, All-tail, All-cons, All-weaker}
use Rattle.std.proofs.lemmas.List.Kept.{AllPairs-from_increasing}
use Rattle.definitions_operators.specs.Operators.{has, intersect, with_number, union}
use Rattle.definitions_operators.specs.Positions.{Rises}
use Rattle.definitions_operators.proofs.ListLaws.{filter-same}

-- # Rising lists

pub rises-tail : (x : ℕ) (xs : List ℕ) → Rises (x ∷ xs) → Rises xs
rises-tail x xs rises k within = rw add-one (rw add-one at (rises (suc k) (omega arith)))

pub rises-above : (x : ℕ) (xs : List ℕ) → Rises (x ∷ xs) → All (λ y. x < y) xs
rises-above x xs rises k d within =
    let pairs = AllPairs-from_increasing (x ∷ xs) rises in
    pairs 0 (suc k) d (omega arith) (omega arith)

-- # Intersections

has-none : (xs : List ℕ) (x : ℕ) → All (λ y. x < y) xs → has xs x ≡ false
has-none [] x above = refl
has-none (y ∷ xs) x above =
    let h : x < y = All-head (λ y. x < y) y xs above in
    let t : (y == x) ≡ false = grind (arith, nat_tests) in
    ap₂ (λ a b. a || b) t (has-none xs x (All-tail (λ y. x < y) y xs above))

filter-none : (keys : List ℕ) (xs : List ℕ) → keys ≡ [] → filter (has keys) xs ≡ []
filter-none keys [] none = refl
filter-none keys (x ∷ xs) none =
    ap (λ (l : List ℕ). cond (has l x) (x ∷ filter (has keys) xs) (filter (has keys) xs)) none ∙ filter-none keys xs none

pub intersect-nothing : (xs : List ℕ) → intersect xs [] ≡ []
intersect-nothing xs = filter-none [] xs refl

pub intersect-less : (x y : ℕ) (xs ys : List ℕ) → x < y → Rises (y ∷ ys) → intersect (x ∷ xs) (y ∷ ys) ≡ intersect xs (y ∷ ys)
intersect-less x y xs ys less rises =
    let above : All (λ z. x < z) (y ∷ ys) =
    All-cons (λ z. x < z) y ys less (All-weaker (λ z. y < z) (λ z. x < z) (λ z h. omega arith) ys (rises-above y ys rises)) in
    ap (λ b. cond b (x ∷ filter (has (y ∷ ys)) xs) (filter (has (y ∷ ys)) xs)) (has-none (y ∷ ys) x above)

-- a number below all others is no key for them
skip_key : (y : ℕ) (xs ys : List ℕ) → All (λ x. y < x) xs → filter (has (y ∷ ys)) xs ≡ filter (has ys) xs
skip_key y xs ys above =
    filter-same (λ x. y < x) (has (y ∷ ys)) (has ys)
    (λ x h. let t : (y == x) ≡ false = grind (arith, nat_tests) in ap (λ b. b || has ys x) t) xs above

pub intersect-greater : (x y : ℕ) (xs ys : List ℕ) → y < x → Rises (x ∷ xs) → intersect (x ∷ xs) (y ∷ ys) ≡ intersect (x ∷ xs) ys
intersect-greater x y xs ys greater rises =
    skip_key y (x ∷ xs) ys (All-cons (λ z. y < z) x xs greater (All-weaker (λ z. x < z) (λ z. y < z) (λ z h. omega arith) xs (rises-above x xs rises)))

pub intersect-equal : (x y : ℕ) (xs ys : List ℕ) → x ≡ y → Rises (x ∷ xs) → intersect (x ∷ xs) (y ∷ ys) ≡ x ∷ intersect xs ys
intersect-equal x y xs ys same rises =
    let here : (y == x) ≡ true = (Decides-eqb y x).1 (sym same) in
    ap (λ b. cond (b || has ys x) (x ∷ filter (has (y ∷ ys)) xs) (filter (has (y ∷ ys)) xs)) here
    ∙ ap (λ l. x ∷ l) (skip_key y xs ys (subst (λ z. All (λ x. z < x) xs) same (rises-above x xs rises)))

-- # Unions

with_number-least : (x : ℕ) (ys : List ℕ) → All (λ y. x < y) ys → with_number x ys ≡ x ∷ ys
with_number-least x [] above = refl
with_number-least x (y ∷ ys) above =
    let h : x < y = All-head (λ y. x < y) y ys above in
    let t : nat_lt x y ≡ true = grind (arith, nat_tests) in
    ap (λ b. cond b (x ∷ y ∷ ys) (cond (x == y) (y ∷ ys) (y ∷ with_number x ys))) t

with_number-same : (x : ℕ) (ys : List ℕ) → with_number x (x ∷ ys) ≡ x ∷ ys
with_number-same x ys =
    let t : nat_lt x x ≡ false = grind (arith, nat_tests) in
    let e : (x == x) ≡ true = grind (arith, nat_tests) in
    ap (λ b. cond b (x ∷ x ∷ ys) (cond (x == x) (x ∷ ys) (x ∷ with_number x ys))) t ∙ ap (λ b. cond b (x ∷ ys) (x ∷ with_number x ys)) e

with_number-later : (x y : ℕ) (ys : List ℕ) → x < y → with_number y (x ∷ ys) ≡ x ∷ with_number y ys
with_number-later x y ys h =
    let t : nat_lt y x ≡ false = grind (arith, nat_tests) in
    let e : (y == x) ≡ false = grind (arith, nat_tests) in
    ap (λ b. cond b (y ∷ x ∷ ys) (cond (y == x) (x ∷ ys) (x ∷ with_number y ys))) t ∙ ap (λ b. cond b (x ∷ ys) (x ∷ with_number y ys)) e

union-least : (x : ℕ) (left right : List ℕ) → All (λ y. x < y) left → union left (x ∷ right) ≡ x ∷ union left right
union-least x [] right above = refl
union-least x (y ∷ left) right above =
    ap (with_number y) (union-least x left right (All-tail (λ y. x < y) y left above))
    ∙ with_number-later x y (union left right) (All-head (λ y. x < y) y left above)

pub with_number-All : (P : ℕ → Type 0) (x : ℕ) (ys : List ℕ) → P x → All P ys → All P (with_number x ys)
with_number-All P x [] p all = All-cons P x [] p all
with_number-All P x (y ∷ ys) p all =
    let head = All-head P y ys all in
    let tail = All-tail P y ys all in
    (elim (nat_lt x y) as (λ b. All P (cond b (x ∷ y ∷ ys) (cond (x == y) (y ∷ ys) (y ∷ with_number x ys)))) [
      | true ↦ All-cons P x (y ∷ ys) p all
      | false ↦ (elim (x == y) as (λ b. All P (cond b (y ∷ ys) (y ∷ with_number x ys))) [
        | true ↦ all
        | false ↦ All-cons P y (with_number x ys) head (with_number-All P x ys p tail)
      ])
    ])

union-All : (P : ℕ → Type 0) (left right : List ℕ) → All P left → All P right → All P (union left right)
union-All P [] right first second = second
union-All P (x ∷ left) right first second =
    with_number-All P x (union left right) (All-head P x left first) (union-All P left right (All-tail P x left first) second)

pub union-less : (x y : ℕ) (xs ys : List ℕ) → x < y → Rises (x ∷ xs) → Rises (y ∷ ys) → union (x ∷ xs) (y ∷ ys) ≡ x ∷ union xs (y ∷ ys)
union-less x y xs ys less rises others =
    with_number-least x (union xs (y ∷ ys))
    (union-All (λ z. x < z) xs (y ∷ ys) (rises-above x xs rises)
    (All-cons (λ z. x < z) y ys less (All-weaker (λ z. y < z) (λ z. x < z) (λ z h. omega arith) ys (rises-above y ys others))))

pub union-equal : (x y : ℕ) (xs ys : List ℕ) → x ≡ y → Rises (x ∷ xs) → union (x ∷ xs) (y ∷ ys) ≡ x ∷ union xs ys
union-equal x y xs ys same rises =
    ap (λ z. with_number x (union xs (z ∷ ys))) (sym same)
    ∙ ap (with_number x) (union-least x xs ys (rises-above x xs rises))
    ∙ with_number-same x (union xs ys)

pub union-greater : (x y : ℕ) (xs ys : List ℕ) → y < x → Rises (x ∷ xs) → union (x ∷ xs) (y ∷ ys) ≡ y ∷ union (x ∷ xs) ys
union-greater x y xs ys greater rises =
    union-least y (x ∷ xs) ys (All-cons (λ z. y < z) x xs greater (All-weaker (λ z. x < z) (λ z. y < z) (λ z h. omega arith) xs (rises-above x xs rises)))

pub union-nothing : (xs : List ℕ) → Rises xs → union xs [] ≡ xs
union-nothing [] rises = refl
union-nothing (x ∷ xs) rises = ap (with_number x) (union-nothing xs (rises-tail x xs rises)) ∙ with_number-least x xs (rises-above x xs rises)

-- # One step of a merge

-- what is left of a list begins with its number at a place, and goes on with what is left behind it
pub left-from : (xs later : List ℕ) (i : ℕ) → i < length xs → drop i xs ++ later ≡ get_or xs i 0 ∷ (drop (i + 1) xs ++ later)
left-from xs later i within = ap (λ (l : List ℕ). l ++ later) (drop_more xs i 0 within)

-- what is left rises
pub rises-drop : (i : ℕ) (xs : List ℕ) → Rises xs → Rises (drop i xs)
rises-drop zero xs rises = rises
rises-drop (suc i) [] rises = rises
rises-drop (suc i) (x ∷ xs) rises = rises-drop i xs (rises-tail x xs rises)

-- and so it does with the numbers behind it
pub rises-left : (i : ℕ) (xs later : List ℕ) → i ≤ length xs → Rises (xs ++ later) → Rises (drop i xs ++ later)
rises-left zero xs later within rises = rises
rises-left (suc i) [] later within rises = absurd (omega arith)
rises-left (suc i) (x ∷ xs) later within rises = rises-left i xs later (omega arith) (rises-tail x (xs ++ later) rises)

abbrev pub count_of : Bool → ℕ
count_of b = bool_byte b

pub count-few : (b : Bool) → count_of b ≤ 1
count-few true = omega arith
count-few false = omega arith

pub equal-counts : (a b : ℕ) → count_of (nat_eq a b) ≤ count_of (nat_le a b)
equal-counts a b =
    elim (cases_eq a b) [
      | inl same ↦
          let t : nat_le a b ≡ true = grind (arith, nat_tests) in
          subst (λ s. count_of (nat_eq a b) ≤ count_of s) (sym t) (count-few (nat_eq a b))
      | inr other ↦
          let f : nat_eq a b ≡ false = grind (arith, nat_tests) in
          subst (λ s. count_of s ≤ count_of (nat_le a b)) (sym f) (omega arith)
    ]

pub equal-counts_right : (a b : ℕ) → count_of (nat_eq a b) ≤ count_of (nat_le b a)
equal-counts_right a b =
    elim (cases_eq a b) [
      | inl same ↦
          let t : nat_le b a ≡ true = grind (arith, nat_tests) in
          subst (λ s. count_of (nat_eq a b) ≤ count_of s) (sym t) (count-few (nat_eq a b))
      | inr other ↦
          let f : nat_eq a b ≡ false = grind (arith, nat_tests) in
          subst (λ s. count_of s ≤ count_of (nat_le b a)) (sym f) (omega arith)
    ]

pub one-counts : (a b : ℕ) → 1 ≤ count_of (nat_le a b) + count_of (nat_le b a)
one-counts a b =
    elim (cases_lt a b) [
      | inl less ↦
          let t : nat_le a b ≡ true = grind (arith, nat_tests) in
          subst (λ s. 1 ≤ count_of s + count_of (nat_le b a)) (sym t) (omega arith)
      | inr not_less ↦
          let t : nat_le b a ≡ true = grind (arith, nat_tests) in
          subst (λ s. 1 ≤ count_of (nat_le a b) + count_of s) (sym t) (omega arith)
    ]

-- a number that is written at the end of what was kept
written : (out : List ℕ) (kept number : ℕ) (rest : List ℕ) → kept < length out → take (kept + 1) (set out kept number) ++ rest ≡ take kept out ++ number ∷ rest
written out kept number rest within =
    ap (λ (l : List ℕ). l ++ rest) (ap (λ n. take n (set out kept number)) (add-one kept) ∙ take-suc-set out kept number within)
    ∙ append_assoc (take kept out) (number ∷ []) rest

unwritten : (out : List ℕ) (kept number : ℕ) (rest : List ℕ) → take (kept + 0) (set out kept number) ++ rest ≡ take kept out ++ rest
unwritten out kept number rest =
    ap (λ (l : List ℕ). l ++ rest) (ap (λ n. take n (set out kept number)) (let h : kept + 0 ≡ kept = omega arith in h) ∙ take-set out kept number)

-- the step of an intersection: the number is kept where both begin with it, and left where it is not the greater one
pub meet-step : (left right later others out : List ℕ) (i j kept : ℕ) → i < length left → j < length right → kept < length out
    → Rises (left ++ later) → Rises (right ++ others)
    → (let a = get_or left i 0 in let b = get_or right j 0 in
    take (kept + count_of (nat_eq a b)) (set out kept a) ++ intersect (drop (i + count_of (nat_le a b)) left ++ later) (drop (j + count_of (nat_le b a)) right ++ others)
    ≡ take kept out ++ intersect (drop i left ++ later) (drop j right ++ others))
meet-step left right later others out i j kept in_left in_right room rises also =
    let a = get_or left i 0 in
    let b = get_or right j 0 in
    let l = drop (i + 1) left ++ later in
    let r = drop (j + 1) right ++ others in
    let at_left : drop i left ++ later ≡ a ∷ l = left-from left later i in_left in
    let at_right : drop j right ++ others ≡ b ∷ r = left-from right others j in_right in
    let up_left : Rises (a ∷ l) = subst Rises at_left (rises-left i left later (omega arith) rises) in
    let up_right : Rises (b ∷ r) = subst Rises at_right (rises-left j right others (omega arith) also) in
    let stay_left : drop (i + 0) left ++ later ≡ a ∷ l = ap (λ n. drop n left ++ later) (let h : i + 0 ≡ i = omega arith in h) ∙ at_left in
    let stay_right : drop (j + 0) right ++ others ≡ b ∷ r = ap (λ n. drop n right ++ others) (let h : j + 0 ≡ j = omega arith in h) ∙ at_right in
    let whole : intersect (drop i left ++ later) (drop j right ++ others) ≡ intersect (a ∷ l) (b ∷ r) = ap₂ intersect at_left at_right in
    let Step : Bool → Bool → Bool → Type 0 = λ same first second.
    take (kept + count_of same) (set out kept a) ++ intersect (drop (i + count_of first) left ++ later) (drop (j + count_of second) right ++ others)
    ≡ take kept out ++ intersect (drop i left ++ later) (drop j right ++ others) in
    elim (cases_lt a b) [
      | inl less ↦
          let same : nat_eq a b ≡ false = grind (arith, nat_tests) in
          let first : nat_le a b ≡ true = grind (arith, nat_tests) in
          let second : nat_le b a ≡ false = grind (arith, nat_tests) in
          subst (λ s. Step s (nat_le a b) (nat_le b a)) (sym same)
          (subst (λ s. Step false s (nat_le b a)) (sym first)
          (subst (λ s. Step false true s) (sym second)
          (unwritten out kept a (intersect l (drop (j + 0) right ++ others))
          ∙ ap (λ (s : List ℕ). take kept out ++ s) (ap (intersect l) stay_right ∙ sym (intersect-less a b l r less up_right) ∙ sym whole))))
      | inr not_less ↦
          elim (cases_eq a b) [
            | inl equal ↦
                let same : nat_eq a b ≡ true = (Decides-eqb a b).1 equal in
                let first : nat_le a b ≡ true = grind (arith, nat_tests) in
                let second : nat_le b a ≡ true = grind (arith, nat_tests) in
                subst (λ s. Step s (nat_le a b) (nat_le b a)) (sym same)
                (subst (λ s. Step true s (nat_le b a)) (sym first)
                (subst (λ s. Step true true s) (sym second)
                (written out kept a (intersect l r) room
                ∙ ap (λ (s : List ℕ). take kept out ++ s) (sym (intersect-equal a b l r equal up_left) ∙ sym whole))))
            | inr other ↦
                let same : nat_eq a b ≡ false = grind (arith, nat_tests) in
                let first : nat_le a b ≡ false = grind (arith, nat_tests) in
                let second : nat_le b a ≡ true = grind (arith, nat_tests) in
                let greater : b < a = omega arith in
                subst (λ s. Step s (nat_le a b) (nat_le b a)) (sym same)
                (subst (λ s. Step false s (nat_le b a)) (sym first)
                (subst (λ s. Step false false s) (sym second)
                (unwritten out kept a (intersect (drop (i + 0) left ++ later) r)
                ∙ ap (λ (s : List ℕ). take kept out ++ s) (ap (λ (s : List ℕ). intersect s r) stay_left ∙ sym (intersect-greater a b l r greater up_left) ∙ sym whole))))
          ]
    ]

-- the step of a union: the lesser number is kept, and left where it stands
pub merge-step : (left right later others out : List ℕ) (i j kept : ℕ) → i < length left → j < length right → kept < length out
    → Rises (left ++ later) → Rises (right ++ others)
    → (let a = get_or left i 0 in let b = get_or right j 0 in
    take (kept + 1) (set out kept (min a b)) ++ union (drop (i + count_of (nat_le a b)) left ++ later) (drop (j + count_of (nat_le b a)) right ++ others)
    ≡ take kept out ++ union (drop i left ++ later) (drop j right ++ others))
merge-step left right later others out i j kept in_left in_right room rises also =
    let a = get_or left i 0 in
    let b = get_or right j 0 in
    let l = drop (i + 1) left ++ later in
    let r = drop (j + 1) right ++ others in
    let at_left : drop i left ++ later ≡ a ∷ l = left-from left later i in_left in
    let at_right : drop j right ++ others ≡ b ∷ r = left-from right others j in_right in
    let up_left : Rises (a ∷ l) = subst Rises at_left (rises-left i left later (omega arith) rises) in
    let up_right : Rises (b ∷ r) = subst Rises at_right (rises-left j right others (omega arith) also) in
    let stay_left : drop (i + 0) left ++ later ≡ a ∷ l = ap (λ n. drop n left ++ later) (let h : i + 0 ≡ i = omega arith in h) ∙ at_left in
    let stay_right : drop (j + 0) right ++ others ≡ b ∷ r = ap (λ n. drop n right ++ others) (let h : j + 0 ≡ j = omega arith in h) ∙ at_right in
    let whole : union (drop i left ++ later) (drop j right ++ others) ≡ union (a ∷ l) (b ∷ r) = ap₂ union at_left at_right in
    let Step : ℕ → Bool → Bool → Type 0 = λ number first second.
    take (kept + 1) (set out kept number) ++ union (drop (i + count_of first) left ++ later) (drop (j + count_of second) right ++ others)
    ≡ take kept out ++ union (drop i left ++ later) (drop j right ++ others) in
    elim (cases_lt a b) [
      | inl less ↦
          let number : min a b ≡ a = omega arith in
          let first : nat_le a b ≡ true = grind (arith, nat_tests) in
          let second : nat_le b a ≡ false = grind (arith, nat_tests) in
          subst (λ s. Step s (nat_le a b) (nat_le b a)) (sym number)
          (subst (λ s. Step a s (nat_le b a)) (sym first)
          (subst (λ s. Step a true s) (sym second)
          (written out kept a (union l (drop (j + 0) right ++ others)) room
          ∙ ap (λ (s : List ℕ). take kept out ++ s) (ap (λ (s : List ℕ). a ∷ union l s) stay_right ∙ sym (union-less a b l r less up_left up_right) ∙ sym whole))))
      | inr not_less ↦
          elim (cases_eq a b) [
            | inl equal ↦
                let number : min a b ≡ a = omega arith in
                let first : nat_le a b ≡ true = grind (arith, nat_tests) in
                let second : nat_le b a ≡ true = grind (arith, nat_tests) in
                subst (λ s. Step s (nat_le a b) (nat_le b a)) (sym number)
                (subst (λ s. Step a s (nat_le b a)) (sym first)
                (subst (λ s. Step a true s) (sym second)
                (written out kept a (union l r) room
                ∙ ap (λ (s : List ℕ). take kept out ++ s) (sym (union-equal a b l r equal up_left) ∙ sym whole))))
            | inr other ↦
                let number : min a b ≡ b = omega arith in
                let first : nat_le a b ≡ false = grind (arith, nat_tests) in
                let second : nat_le b a ≡ true = grind (arith, nat_tests) in
                let greater : b < a = omega arith in
                subst (λ s. Step s (nat_le a b) (nat_le b a)) (sym number)
                (subst (λ s. Step b s (nat_le b a)) (sym first)
                (subst (λ s. Step b false s) (sym second)
                (written out kept b (union (drop (i + 0) left ++ later) r) room
                ∙ ap (λ (s : List ℕ). take kept out ++ s) (ap (λ (s : List ℕ). b ∷ union s r) stay_left ∙ sym (union-greater a b l r greater up_left) ∙ sym whole))))
          ]
    ]

-- the same with the numbers that code adds
pub meet-next : (left right later others out : List ℕ) (i j kept same first second : ℕ) → i < length left → j < length right → kept < length out
    → same ≡ count_of (nat_eq (get_or left i 0) (get_or right j 0)) → first ≡ count_of (nat_le (get_or left i 0) (get_or right j 0))
    → second ≡ count_of (nat_le (get_or right j 0) (get_or left i 0)) → Rises (left ++ later) → Rises (right ++ others)
    → take kept out ++ intersect (drop i left ++ later) (drop j right ++ others)
    ≡ take (kept + same) (set out kept (get_or left i 0)) ++ intersect (drop (i + first) left ++ later) (drop (j + second) right ++ others)
meet-next left right later others out i j kept same first second in_left in_right room is_same is_first is_second rises also =
    sym (ap (λ n. take (kept + n) (set out kept (get_or left i 0)) ++ intersect (drop (i + first) left ++ later) (drop (j + second) right ++ others)) is_same
    ∙ ap₂ (λ n m. take (kept + count_of (nat_eq (get_or left i 0) (get_or right j 0))) (set out kept (get_or left i 0)) ++ intersect (drop (i + n) left ++ later) (drop (j + m) right ++ others)) is_first is_second
    ∙ meet-step left right later others out i j kept in_left in_right room rises also)

pub merge-next : (left right later others out : List ℕ) (i j kept number first second : ℕ) → i < length left → j < length right → kept < length out
    → number ≡ min (get_or left i 0) (get_or right j 0) → first ≡ count_of (nat_le (get_or left i 0) (get_or right j 0))
    → second ≡ count_of (nat_le (get_or right j 0) (get_or left i 0)) → Rises (left ++ later) → Rises (right ++ others)
    → take kept out ++ union (drop i left ++ later) (drop j right ++ others)
    ≡ take (kept + 1) (set out kept number) ++ union (drop (i + first) left ++ later) (drop (j + second) right ++ others)
merge-next left right later others out i j kept number first second in_left in_right room is_number is_first is_second rises also =
    sym (ap (λ n. take (kept + 1) (set out kept n) ++ union (drop (i + first) left ++ later) (drop (j + second) right ++ others)) is_number
    ∙ ap₂ (λ n m. take (kept + 1) (set out kept (min (get_or left i 0) (get_or right j 0))) ++ union (drop (i + n) left ++ later) (drop (j + m) right ++ others)) is_first is_second
    ∙ merge-step left right later others out i j kept in_left in_right room rises also)

-- # The whole

rises-nothing : (xs : List ℕ) → Rises xs → Rises (xs ++ [])
rises-nothing xs rises = subst Rises (sym (append-nil xs)) rises

left-nothing : (i : ℕ) (xs : List ℕ) → i ≡ length xs → drop i xs ++ [] ≡ []
left-nothing i xs all = append-nil (drop i xs) ∙ drop_all i xs (omega arith)

pub met-all : (left right out : List ℕ) (i j kept : ℕ) → (i ≡ length left) ⊎ (j ≡ length right)
    → ((later others : List ℕ) → Rises (left ++ later) → Rises (right ++ others)
    → intersect (left ++ later) (right ++ others) ≡ take kept out ++ intersect (drop i left ++ later) (drop j right ++ others))
    → Rises left → Rises right → take kept out ≡ intersect left right
met-all left right out i j kept ended whole up_left up_right =
    let all = whole [] [] (rises-nothing left up_left) (rises-nothing right up_right) in
    let none : intersect (drop i left ++ []) (drop j right ++ []) ≡ [] =
    elim ended [
      | inl end ↦ ap (λ (l : List ℕ). intersect l (drop j right ++ [])) (left-nothing i left end)
      | inr end ↦ ap (intersect (drop i left ++ [])) (left-nothing j right end) ∙ intersect-nothing (drop i left ++ [])
    ] in
    sym (append-nil (take kept out)) ∙ ap (λ (l : List ℕ). take kept out ++ l) (sym none) ∙ sym all ∙ ap₂ intersect (append-nil left) (append-nil right)

pub merged-all : (left right out : List ℕ) (i j kept : ℕ) → (i ≡ length left) ⊎ (j ≡ length right)
    → ((later others : List ℕ) → Rises (left ++ later) → Rises (right ++ others)
    → union (left ++ later) (right ++ others) ≡ take kept out ++ union (drop i left ++ later) (drop j right ++ others))
    → Rises left → Rises right → (take kept out ++ drop i left) ++ drop j right ≡ union left right
merged-all left right out i j kept ended whole up_left up_right =
    let all = whole [] [] (rises-nothing left up_left) (rises-nothing right up_right) in
    let front = take kept out in
    let rest : drop i left ++ drop j right ≡ union (drop i left ++ []) (drop j right ++ []) =
    elim ended [
      | inl end ↦
          let none : drop i left ≡ [] = drop_all i left (omega arith) in
          ap (λ (l : List ℕ). l ++ drop j right) none ∙ sym (ap (λ (l : List ℕ). union l (drop j right ++ [])) (left-nothing i left end) ∙ append-nil (drop j right))
      | inr end ↦
          let none : drop j right ≡ [] = drop_all j right (omega arith) in
          ap (λ (l : List ℕ). drop i left ++ l) none ∙ append-nil (drop i left)
          ∙ sym (ap₂ union (append-nil (drop i left)) (left-nothing j right end) ∙ union-nothing (drop i left) (rises-drop i left up_left))
    ] in
    append_assoc front (drop i left) (drop j right) ∙ ap (λ (l : List ℕ). front ++ l) rest ∙ sym all ∙ ap₂ union (append-nil left) (append-nil right)

-- a merge into room for both lists uses one of them up
pub merged-ended : (left right : List ℕ) (i j kept room : ℕ) → (i ≡ length left) ⊎ (j ≡ length right) ⊎ (kept ≡ room) → room ≡ length left + length right
    → i ≤ length left → j ≤ length right → kept ≤ i + j → (i ≡ length left) ⊎ (j ≡ length right)
merged-ended left right i j kept room (inl end) all in_left in_right few = inl end
merged-ended left right i j kept room (inr (inl end)) all in_left in_right few = inr end
merged-ended left right i j kept room (inr (inr full)) all in_left in_right few = inl (omega arith)

-- # What stands in a list of numbers whose room was written

pub room-kept : (out items : List ℕ) (room kept : ℕ) → room ≡ length items → length out ≡ length items
    → take kept (take room (out ++ drop (length out) items)) ≡ take kept out
room-kept out items room kept all same =
    ap (take kept)
    (ap (λ (l : List ℕ). take room (out ++ l)) (drop_all (length out) items (omega arith)) ∙ ap (take room) (append-nil out) ∙ take_all room out (omega arith))

-- a slice to the end of a list is what is left of it
pub rest-of : (xs : List ℕ) (i : ℕ) → take (length xs - i) (drop i xs) ≡ drop i xs
rest-of xs i = take_all (length xs - i) (drop i xs) (omega (arith, length-drop i xs))
