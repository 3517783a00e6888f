-- Differences to values some places before, and the sums that undo them.
use Rattle.std.proofs.Common.{◌≡◌, ℕ, suc, ◌+◌, ◌-◌, ◌^◌, ◌<◌, ◌≤◌, List, [], ◌∷◌, ◌++◌, length, replicate, get_or, refl, sym, ap, ap₂, ◌∙◌, subst, inl, inr, arith, length-append, append_assoc}
use Rattle.std.specs.List.{AllByRecursion}
use Rattle.std.specs.Simd.Lanes.{zip2}
use Rattle.std.proofs.lemmas.Bool.{cases_lt}
use Rattle.std.proofs.lemmas.List.{get_or-append_right, ext_get_or, get_or-replicate, get_or_append_left, length-replicate}
use Rattle.std.proofs.lemmas.Simd.{get_or-zip2}
use Rattle.definitions_blocks.specs.Words.{IsWord}
use Rattle.definitions_blocks.specs.Differences.{difference, wrapped_sum, AreLaggedSums}
use Rattle.definitions_blocks.proofs.WordListLaws.{AreWords-append}

sum_back : (v b : ℕ) → v < 2 ^ 64 → b < 2 ^ 64 → wrapped_sum (difference v b) b ≡ v
sum_back v b value base = omega arith

difference_back : (d b : ℕ) → d < 2 ^ 64 → b < 2 ^ 64 → difference (wrapped_sum d b) b ≡ d
difference_back d b value base = omega arith

pub length_zip2 : (f : ℕ → ℕ → ℕ) (xs ys : List ℕ) → length xs ≤ length ys → length (zip2 f xs ys) ≡ length xs
length_zip2 f [] ys longer = refl
length_zip2 f (x ∷ xs) [] longer = absurd (omega arith)
length_zip2 f (x ∷ xs) (y ∷ ys) longer = ap suc (length_zip2 f xs ys (omega arith))

-- the differences to earlier values, where `before` stands before the first
abbrev pub differences_after : List ℕ → List ℕ → List ℕ
differences_after before values = zip2 difference values (before ++ values)

-- the values of which these are the differences after `before`
abbrev pub sums_of : List ℕ → List ℕ → List ℕ
sums_of [] before = []
sums_of (d ∷ ds) [] = []
sums_of (d ∷ ds) (b ∷ before) = wrapped_sum d b ∷ sums_of ds (before ++ wrapped_sum d b ∷ [])

moved : (before : List ℕ) (v : ℕ) (values : List ℕ) → before ++ v ∷ values ≡ (before ++ v ∷ []) ++ values
moved before v values = sym (append_assoc before (v ∷ []) values)

words_moved : (before : List ℕ) (v : ℕ) → AllByRecursion IsWord before → v < 2 ^ 64 → AllByRecursion IsWord (before ++ v ∷ [])
words_moved before v words here = AreWords-append before (v ∷ []) words (here, tt)

-- values are the sums of their differences
pub sums_of-differences_after : (values before : List ℕ) → 0 < length before → AllByRecursion IsWord before → AllByRecursion IsWord values → sums_of (differences_after before values) before ≡ values
sums_of-differences_after [] before some p q = refl
sums_of-differences_after (v ∷ values) [] some p q = absurd (omega arith)
sums_of-differences_after (v ∷ values) (b ∷ before) some p q =
    let here : wrapped_sum (difference v b) b ≡ v = sum_back v b q.0 p.0 in
    let rest : sums_of (differences_after (before ++ v ∷ []) values) (before ++ v ∷ []) ≡ values =
    sums_of-differences_after values (before ++ v ∷ []) (omega (arith, length-append before (v ∷ []))) (words_moved before v p.1 q.0) q.1 in
    let all : sums_of (zip2 difference values (before ++ v ∷ values)) (before ++ v ∷ []) ≡ values = ap (λ l. sums_of (zip2 difference values l) (before ++ v ∷ [])) (moved before v values) ∙ rest in
    ap₂ (λ w ws. w ∷ ws) here (ap (λ w. sums_of (zip2 difference values (before ++ v ∷ values)) (before ++ w ∷ [])) here ∙ all)

-- differences are those of their sums
pub differences_after-sums_of : (ds before : List ℕ) → 0 < length before → AllByRecursion IsWord before → AllByRecursion IsWord ds → differences_after before (sums_of ds before) ≡ ds
differences_after-sums_of [] before some p q = refl
differences_after-sums_of (d ∷ ds) [] some p q = absurd (omega arith)
differences_after-sums_of (d ∷ ds) (b ∷ before) some p q =
    let v = wrapped_sum d b in
    let small : v < 2 ^ 64 = omega arith in
    let here : difference v b ≡ d = difference_back d b q.0 p.0 in
    let vs = sums_of ds (before ++ v ∷ []) in
    let rest : differences_after (before ++ v ∷ []) vs ≡ ds =
    differences_after-sums_of ds (before ++ v ∷ []) (omega (arith, length-append before (v ∷ []))) (words_moved before v p.1 small) q.1 in
    ap₂ (λ w ws. w ∷ ws) here (ap (zip2 difference vs) (moved before v vs) ∙ rest)

pub length-sums_of : (ds before : List ℕ) → 0 < length before → length (sums_of ds before) ≡ length ds
length-sums_of [] before some = refl
length-sums_of (d ∷ ds) [] some = absurd (omega arith)
length-sums_of (d ∷ ds) (b ∷ before) some = ap suc (length-sums_of ds (before ++ wrapped_sum d b ∷ []) (omega (arith, length-append before (wrapped_sum d b ∷ []))))

pub AreWords-sums_of : (ds before : List ℕ) → AllByRecursion IsWord (sums_of ds before)
AreWords-sums_of [] before = tt
AreWords-sums_of (d ∷ ds) [] = tt
AreWords-sums_of (d ∷ ds) (b ∷ before) = (omega arith, AreWords-sums_of ds (before ++ wrapped_sum d b ∷ []))

-- The sums are the one list of which each value is its difference and an earlier value.

sums_of-sum : (ds before : List ℕ) → 0 < length before → sums_of ds before ≡ zip2 wrapped_sum ds (before ++ sums_of ds before)
sums_of-sum [] before some = refl
sums_of-sum (d ∷ ds) [] some = absurd (omega arith)
sums_of-sum (d ∷ ds) (b ∷ before) some =
    let v = wrapped_sum d b in
    let vs = sums_of ds (before ++ v ∷ []) in
    ap (λ ws. v ∷ ws) (sums_of-sum ds (before ++ v ∷ []) (omega (arith, length-append before (v ∷ []))) ∙ ap (zip2 wrapped_sum ds) (sym (moved before v vs)))

sums_of-is : (ds before values : List ℕ) → 0 < length before → values ≡ zip2 wrapped_sum ds (before ++ values) → values ≡ sums_of ds before
sums_of-is [] before values some is = is
sums_of-is (d ∷ ds) [] values some is = absurd (omega arith)
sums_of-is (d ∷ ds) (b ∷ before) [] some is = cc
sums_of-is (d ∷ ds) (b ∷ before) (v ∷ values) some is =
    let here : v ≡ wrapped_sum d b = cc in
    let others : values ≡ zip2 wrapped_sum ds (before ++ v ∷ values) = cc in
    let rest : values ≡ sums_of ds (before ++ v ∷ []) = sums_of-is ds (before ++ v ∷ []) values (omega (arith, length-append before (v ∷ []))) (others ∙ ap (zip2 wrapped_sum ds) (moved before v values)) in
    ap₂ (λ w ws. w ∷ ws) here (rest ∙ ap (λ w. sums_of ds (before ++ w ∷ [])) here)

pub AreLaggedSums-sums_of : (lag base : ℕ) (ds : List ℕ) → 0 < lag → AreLaggedSums lag base ds (sums_of ds (replicate lag base))
AreLaggedSums-sums_of lag base ds some = sums_of-sum ds (replicate lag base) (omega (arith, length-replicate lag base))

pub AreLaggedSums-is : (lag base : ℕ) (ds values : List ℕ) → 0 < lag → AreLaggedSums lag base ds values → values ≡ sums_of ds (replicate lag base)
AreLaggedSums-is lag base ds values some are = sums_of-is ds (replicate lag base) values (omega (arith, length-replicate lag base)) are

-- sums, from their places
pub AreLaggedSums-places : (lag base : ℕ) (ds values : List ℕ) → length values ≡ length ds
    → ((i : ℕ) → i < lag → i < length ds → get_or values i 0 ≡ wrapped_sum (get_or ds i 0) base)
    → ((i : ℕ) → lag + i < length ds → get_or values (lag + i) 0 ≡ wrapped_sum (get_or ds (lag + i) 0) (get_or values i 0))
    → AreLaggedSums lag base ds values
AreLaggedSums-places lag base ds values same early late =
    let before = replicate lag base in
    let long : length before ≡ lag = length-replicate lag base in
    let many : length (before ++ values) ≡ lag + length values = length-append before values ∙ ap (λ n. n + length values) long in
    let pairs : length (zip2 wrapped_sum ds (before ++ values)) ≡ length ds = length_zip2 wrapped_sum ds (before ++ values) (omega arith) in
    ext_get_or 0 values (zip2 wrapped_sum ds (before ++ values)) (omega arith) (λ i within.
    let pair : get_or (zip2 wrapped_sum ds (before ++ values)) i 0 ≡ wrapped_sum (get_or ds i 0) (get_or (before ++ values) i 0) = get_or-zip2 wrapped_sum ds (before ++ values) i 0 0 0 (omega arith) (omega arith) in
    elim (cases_lt i lag) [
      | inl front ↦
          let at : get_or (before ++ values) i 0 ≡ base = get_or_append_left before values 0 i (omega arith) ∙ get_or-replicate lag i base 0 front in
          early i front (omega arith) ∙ ap (wrapped_sum (get_or ds i 0)) (sym at) ∙ sym pair
      | inr past ↦
          let place : lag + (i - lag) ≡ i = omega arith in
          let at : get_or (before ++ values) i 0 ≡ get_or values (i - lag) 0 = get_or-append_right before values lag i 0 long past in
          subst (λ n. get_or values n 0 ≡ wrapped_sum (get_or ds n 0) (get_or values (i - lag) 0)) place (late (i - lag) (omega arith))
          ∙ ap (wrapped_sum (get_or ds i 0)) (sym at) ∙ sym pair
    ])
