-- The two deltas: what their differences are place by place, and that base and differences are those of one block at most.
use Rattle.std.proofs.Common.{◌≡◌, ℕ, zero, suc, ◌+◌, ◌-◌, ◌^◌, ◌<◌, ◌≤◌, List, [], ◌∷◌, ◌++◌, length, replicate, get_or, refl, sym, ap, ◌∙◌, subst, inl, inr, arith, length-append}
use Rattle.std.specs.List.{AllByRecursion}
use Rattle.std.specs.Simd.Lanes.{zip2}
use Rattle.std.proofs.lemmas.Bool.{cases_lt}
use Rattle.std.proofs.lemmas.List.{ext_get_or, get_or-replicate, get_or_append_left, get_or-append-add, length-replicate}
use Rattle.std.proofs.lemmas.Simd.{get_or-zip2}
use Rattle.definitions_blocks.specs.Words.{IsWord}
use Rattle.definitions_blocks.specs.Blocks.{IsFull, block_values}
use Rattle.definitions_blocks.specs.Differences.{difference, first_of, lagged_differences, delta1_of, delta16_of, AreLaggedSums, AreDelta1Differences, AreDelta16Differences, HoldsOfOneBlock}
use Rattle.definitions_blocks.specs.Packings.{IsTransform}
use Rattle.definitions_blocks.proofs.WordListLaws.{words_at, AreWords-replicate}
use Rattle.definitions_blocks.proofs.LaggedSumLaws.{length_zip2, differences_after, sums_of, sums_of-differences_after, differences_after-sums_of, length-sums_of, AreWords-sums_of, AreLaggedSums-is}

pub first_of-word : (values : List ℕ) → IsFull values → first_of values < 2 ^ 64
first_of-word values is = words_at values is.words 0

pub length-lagged_differences : (lag : ℕ) (values : List ℕ) → length (lagged_differences lag values) ≡ length values
length-lagged_differences lag values = length_zip2 difference values (replicate lag (first_of values) ++ values) (omega (arith, length-append (replicate lag (first_of values)) values))

words_zip2 : (f : ℕ → ℕ → ℕ) (xs ys : List ℕ) → ((a b : ℕ) → f a b < 2 ^ 64) → AllByRecursion IsWord (zip2 f xs ys)
words_zip2 f [] ys small = tt
words_zip2 f (x ∷ xs) [] small = tt
words_zip2 f (x ∷ xs) (y ∷ ys) small = (small x y, words_zip2 f xs ys small)

-- Full blocks have full differences, and belong to their base and differences only.

pub lagged_differences-full : (lag : ℕ) (values : List ℕ) → IsFull values → IsFull (lagged_differences lag values)
lagged_differences-full lag values is = record {
  whole = length-lagged_differences lag values ∙ is.whole;
  words = words_zip2 difference values (replicate lag (first_of values) ++ values) (λ a b. omega arith);
}

sums_of-lagged_differences : (lag base : ℕ) (values : List ℕ) → 0 < lag → IsFull values → base ≡ first_of values → sums_of (lagged_differences lag values) (replicate lag base) ≡ values
sums_of-lagged_differences lag base values some is e =
    ap (λ b. sums_of (lagged_differences lag values) (replicate lag b)) e
    ∙ sums_of-differences_after values (replicate lag (first_of values)) (omega (arith, length-replicate lag (first_of values))) (AreWords-replicate lag (first_of values) (first_of-word values is)) is.words

-- the sums of a block's differences are the block
pub AreLaggedSums-block : (lag base : ℕ) (values ds sums : List ℕ) → 0 < lag → IsFull values → base ≡ first_of values → ds ≡ lagged_differences lag values → AreLaggedSums lag base ds sums → sums ≡ values
AreLaggedSums-block lag base values ds sums some is base_is ds_are are =
    AreLaggedSums-is lag base ds sums some are ∙ ap (λ l. sums_of l (replicate lag base)) ds_are ∙ sums_of-lagged_differences lag base values some is base_is

lagged_differences-join : (lag : ℕ) (values others : List ℕ) → 0 < lag → IsFull values → IsFull others → first_of values ≡ first_of others → lagged_differences lag values ≡ lagged_differences lag others → values ≡ others
lagged_differences-join lag values others some p q base differences =
    sym (sums_of-lagged_differences lag (first_of values) values some p refl) ∙ ap (λ ds. sums_of ds (replicate lag (first_of values))) differences ∙ sums_of-lagged_differences lag (first_of values) others some q base

pub delta1_of-full : (values : List ℕ) → IsFull values → IsFull (delta1_of values)
delta1_of-full values is = lagged_differences-full 1 values is

pub delta1_of-join : (values others : List ℕ) → IsFull values → IsFull others → first_of values ≡ first_of others → delta1_of values ≡ delta1_of others → values ≡ others
delta1_of-join values others p q base differences = lagged_differences-join 1 values others (omega arith) p q base differences

pub delta16_of-full : (values : List ℕ) → IsFull values → IsFull (delta16_of values)
delta16_of-full values is = lagged_differences-full 16 values is

pub delta16_of-join : (values others : List ℕ) → IsFull values → IsFull others → first_of values ≡ first_of others → delta16_of values ≡ delta16_of others → values ≡ others
delta16_of-join values others p q base differences = lagged_differences-join 16 values others (omega arith) p q base differences

pub delta1_laws : IsTransform first_of delta1_of
delta1_laws = record { full = delta1_of-full; join = delta1_of-join }

pub delta16_laws : IsTransform first_of delta16_of
delta16_laws = record { full = delta16_of-full; join = delta16_of-join }

-- A difference, place by place.

pub lagged_differences-early : (lag : ℕ) (values : List ℕ) (i : ℕ) → i < lag → i < length values → get_or (lagged_differences lag values) i 0 ≡ difference (get_or values i 0) (first_of values)
lagged_differences-early lag values i early within =
    let before = replicate lag (first_of values) in
    let long : length before ≡ lag = length-replicate lag (first_of values) in
    get_or-zip2 difference values (before ++ values) i 0 0 0 within (omega (arith, length-append before values))
    ∙ ap (difference (get_or values i 0)) (get_or_append_left before values 0 i (omega arith) ∙ get_or-replicate lag i (first_of values) 0 early)

pub lagged_differences-late : (lag : ℕ) (values : List ℕ) (i : ℕ) → lag ≤ i → i < length values → get_or (lagged_differences lag values) i 0 ≡ difference (get_or values i 0) (get_or values (i - lag) 0)
lagged_differences-late lag values i late within =
    let before = replicate lag (first_of values) in
    let long : length before ≡ lag = length-replicate lag (first_of values) in
    let place : length before + (i - lag) ≡ i = omega arith in
    get_or-zip2 difference values (before ++ values) i 0 0 0 within (omega (arith, length-append before values))
    ∙ ap (difference (get_or values i 0)) (ap (λ n. get_or (before ++ values) n 0) (sym place) ∙ get_or-append-add before values (i - lag) 0)

pub delta16_of-early : (values : List ℕ) (i : ℕ) → i < 16 → i < length values → get_or (delta16_of values) i 0 ≡ difference (get_or values i 0) (first_of values)
delta16_of-early values i early within = lagged_differences-early 16 values i early within

pub delta16_of-late : (values : List ℕ) (i : ℕ) → i + 16 < length values → get_or (delta16_of values) (i + 16) 0 ≡ difference (get_or values (i + 16) 0) (get_or values i 0)
delta16_of-late values i within =
    let place : i + 16 - 16 ≡ i = omega arith in
    lagged_differences-late 16 values (i + 16) (omega arith) within ∙ ap (λ n. difference (get_or values (i + 16) 0) (get_or values n 0)) place

-- the first difference is 0
pub lagged_differences-first : (lag : ℕ) (values : List ℕ) → 0 < lag → get_or (lagged_differences lag values) 0 0 ≡ 0
lagged_differences-first lag [] some = refl
lagged_differences-first lag (v ∷ values) some =
    let none : difference v v ≡ 0 = omega arith in
    lagged_differences-early lag (v ∷ values) 0 some (omega arith) ∙ none

-- a list of such differences, from its places
pub lagged_differences-places : (lag : ℕ) (values ds : List ℕ) → length ds ≡ length values
    → ((i : ℕ) → i < lag → i < length values → get_or ds i 0 ≡ difference (get_or values i 0) (first_of values))
    → ((i : ℕ) → lag ≤ i → i < length values → get_or ds i 0 ≡ difference (get_or values i 0) (get_or values (i - lag) 0))
    → ds ≡ lagged_differences lag values
lagged_differences-places lag values ds same early late =
    let long : length (lagged_differences lag values) ≡ length values = length-lagged_differences lag values in
    ext_get_or 0 ds (lagged_differences lag values) (omega arith) (λ i within.
    elim (cases_lt i lag) [
      | inl before ↦ early i before (omega arith) ∙ sym (lagged_differences-early lag values i before (omega arith))
      | inr past ↦ late i past (omega arith) ∙ sym (lagged_differences-late lag values i past (omega arith))
    ])

-- Where the first difference is 0, base and differences are those of a block.
pub record IsSummed (lag base : ℕ) (ds values : List ℕ) : Type 0 where
  pub full : IsFull values
  pub base_is : base ≡ first_of values
  pub differences_are : ds ≡ lagged_differences lag values

first_of-sums_of : (lag base : ℕ) (ds : List ℕ) → 0 < lag → 0 < length ds → base < 2 ^ 64 → get_or ds 0 0 ≡ 0 → base ≡ first_of (sums_of ds (replicate lag base))
first_of-sums_of zero base ds some any word first = absurd (omega arith)
first_of-sums_of (suc lag) base [] some any word first = absurd (omega arith)
first_of-sums_of (suc lag) base (d ∷ ds) some any word first = omega arith

pub summed : (lag base : ℕ) (ds : List ℕ) → 0 < lag → base < 2 ^ 64 → IsFull ds → get_or ds 0 0 ≡ 0 → IsSummed lag base ds (sums_of ds (replicate lag base))
summed lag base ds some word is first =
    let before = replicate lag base in
    let any : 0 < length before = omega (arith, length-replicate lag base) in
    let same : base ≡ first_of (sums_of ds before) = first_of-sums_of lag base ds some (omega (arith, is.whole)) word first in
    record {
      full = record { whole = length-sums_of ds before any ∙ is.whole; words = AreWords-sums_of ds before };
      base_is = same;
      differences_are = sym (differences_after-sums_of ds before any (AreWords-replicate lag base word) is.words) ∙ ap (λ b. differences_after (replicate lag b) (sums_of ds before)) same;
    }

-- The relations of base, block and differences are those functions, so they hold of one block at most.

pub AreDelta1Differences-of : (base : ℕ) (values ds : List ℕ) → length values ≡ block_values → base ≡ first_of values → ds ≡ delta1_of values → AreDelta1Differences base values ds
AreDelta1Differences-of base values ds whole base_is are = record {
  count = ap length are ∙ length-lagged_differences 1 values ∙ whole;
  base_is = base_is;
  first = ap (λ l. get_or l 0 0) are ∙ lagged_differences-first 1 values (omega arith);
  later = λ i past within. ap (λ l. get_or l i 0) are ∙ lagged_differences-late 1 values i past (omega arith);
}

pub AreDelta1Differences-are : (base : ℕ) (values ds : List ℕ) → length values ≡ block_values → AreDelta1Differences base values ds → ds ≡ delta1_of values
AreDelta1Differences-are base values ds whole is =
    lagged_differences-places 1 values ds (is.count ∙ sym whole)
    (λ i early within.
    let place : i ≡ 0 = omega arith in
    let none : difference (first_of values) (first_of values) ≡ 0 = omega arith in
    subst (λ n. get_or ds n 0 ≡ difference (get_or values n 0) (first_of values)) (sym place) (is.first ∙ sym none))
    (λ i past within. is.later i past (omega arith))

pub AreDelta1Differences-one : HoldsOfOneBlock AreDelta1Differences
AreDelta1Differences-one base values others ds p q is be =
    delta1_of-join values others p q (sym is.base_is ∙ be.base_is) (sym (AreDelta1Differences-are base values ds p.whole is) ∙ AreDelta1Differences-are base others ds q.whole be)

pub AreDelta16Differences-of : (base : ℕ) (values ds : List ℕ) → length values ≡ block_values → base ≡ first_of values → ds ≡ delta16_of values → AreDelta16Differences base values ds
AreDelta16Differences-of base values ds whole base_is are = record {
  count = ap length are ∙ length-lagged_differences 16 values ∙ whole;
  base_is = base_is;
  first = λ i early. ap (λ l. get_or l i 0) are ∙ lagged_differences-early 16 values i early (omega (arith, whole)) ∙ ap (difference (get_or values i 0)) (sym base_is);
  later = λ i past within. ap (λ l. get_or l i 0) are ∙ lagged_differences-late 16 values i past (omega arith);
}

pub AreDelta16Differences-are : (base : ℕ) (values ds : List ℕ) → length values ≡ block_values → AreDelta16Differences base values ds → ds ≡ delta16_of values
AreDelta16Differences-are base values ds whole is =
    lagged_differences-places 16 values ds (is.count ∙ sym whole)
    (λ i early within. is.first i early ∙ ap (difference (get_or values i 0)) is.base_is)
    (λ i past within. is.later i past (omega arith))

pub AreDelta16Differences-one : HoldsOfOneBlock AreDelta16Differences
AreDelta16Differences-one base values others ds p q is be =
    delta16_of-join values others p q (sym is.base_is ∙ be.base_is) (sym (AreDelta16Differences-are base values ds p.whole is) ∙ AreDelta16Differences-are base others ds q.whole be)
