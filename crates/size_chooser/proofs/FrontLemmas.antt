-- The differences and the runs of the front of a list, as the front grows by a value.
use Rattle.std.proofs.Common.{◌≡◌, ℕ, zero, suc, ◌+◌, ◌-◌, ◌<◌, ◌==◌, cond, min, fold, List, [], ◌∷◌, length, get_or, take, sym, ap, ap₂, ◌∙◌, inl, inr, add-one, arith}
use Rattle.std.proofs.lemmas.Bool.{cases_lt}
use Rattle.std.proofs.lemmas.List.{ext_get_or, get_or-take, length-take}
use Rattle.std.proofs.lemmas.List.Sums.{fold_more}
use Rattle.definitions_blocks.specs.Differences.{difference, first_of, lagged_differences, delta1_of, least_of}
use Rattle.definitions_blocks.specs.Runs.{runs_after, run_count}
use Rattle.definitions_blocks.proofs.DeltaLaws.{length-lagged_differences, lagged_differences-early, lagged_differences-late, lagged_differences-first}

first_of-take : (values : List ℕ) (n : ℕ) → 0 < n → first_of (take n values) ≡ first_of values
first_of-take values n some = get_or-take n values 0 0 some

-- the differences of the front are the front of the differences
pub lagged_differences-take : (lag : ℕ) (values : List ℕ) (n : ℕ) → 0 < n → lagged_differences lag (take n values) ≡ take n (lagged_differences lag values)
lagged_differences-take lag values n some =
    let front = take n values in
    let all = lagged_differences lag values in
    let long : length (lagged_differences lag front) ≡ length front = length-lagged_differences lag front in
    let whole : length all ≡ length values = length-lagged_differences lag values in
    ext_get_or 0 (lagged_differences lag front) (take n all) (omega (arith, length-take n values, length-take n all)) (λ i within.
    let inside : i < n = omega (arith, length-take n values) in
    let below : i < length values = omega (arith, length-take n values) in
    let here : get_or front i 0 ≡ get_or values i 0 = get_or-take n values i 0 inside in
    let there : get_or (take n all) i 0 ≡ get_or all i 0 = get_or-take n all i 0 inside in
    elim (cases_lt i lag) [
      | inl early ↦
          lagged_differences-early lag front i early (omega arith) ∙ ap₂ (λ (a b : ℕ). difference a b) here (first_of-take values n some)
          ∙ sym (lagged_differences-early lag values i early below) ∙ sym there
      | inr late ↦
          lagged_differences-late lag front i late (omega arith) ∙ ap₂ (λ (a b : ℕ). difference a b) here (get_or-take n values (i - lag) 0 (omega arith))
          ∙ sym (lagged_differences-late lag values i late below) ∙ sym there
    ])

-- a difference to the value before, and the one before that
pub delta1_of-at : (values : List ℕ) (place : ℕ) → 0 < place → place < length values → get_or (delta1_of values) place 0 ≡ difference (get_or values place 0) (get_or values (place - 1) 0)
delta1_of-at values place some within = lagged_differences-late 1 values place (omega arith) within

pub delta1_of-before : (values : List ℕ) (place : ℕ) → 0 < place → place < length values → get_or (delta1_of values) (place - 1) 0 ≡ difference (get_or values (place - 1) 0) (get_or values (place - 2) 0)
delta1_of-before values zero some within = absurd (omega arith)
delta1_of-before values (suc zero) some within =
    let none : difference (get_or values 0 0) (get_or values 0 0) ≡ 0 = omega arith in
    lagged_differences-first 1 values (omega arith) ∙ sym none
delta1_of-before values (suc (suc place)) some within =
    let back : suc (suc place) - 2 ≡ suc (suc place) - 1 - 1 = omega arith in
    delta1_of-at values (suc (suc place) - 1) (omega arith) (omega arith) ∙ ap (λ n. difference (get_or values (suc (suc place) - 1) 0) (get_or values n 0)) (sym back)

-- one value more begins a run, or it is the value before
runs_after-more : (before : ℕ) (values : List ℕ) (n : ℕ) → n < length values
    → runs_after before (take (suc n) values) ≡ runs_after before (take n values) + cond (get_or values n 0 == get_or (before ∷ values) n 0) 0 1
runs_after-more before [] n within = absurd (omega arith)
runs_after-more before (value ∷ values) zero within = omega arith
runs_after-more before (value ∷ values) (suc n) within = omega (arith, runs_after-more value values n (omega arith))

run_count-suc : (values : List ℕ) (n : ℕ) → suc n < length values
    → run_count (take (suc (suc n)) values) ≡ run_count (take (suc n) values) + cond (get_or values (suc n) 0 == get_or values n 0) 0 1
run_count-suc [] n within = absurd (omega arith)
run_count-suc (value ∷ values) n within = omega (arith, runs_after-more value values n (omega arith))

pub run_count-more : (values : List ℕ) (n : ℕ) → 0 < n → n < length values
    → run_count (take (n + 1) values) ≡ run_count (take n values) + cond (get_or values n 0 == get_or values (n - 1) 0) 0 1
run_count-more values zero some within = absurd (omega arith)
run_count-more values (suc n) some within =
    let back : suc n - 1 ≡ n = omega arith in
    ap (λ m. run_count (take m values)) (add-one (suc n)) ∙ run_count-suc values n within
    ∙ ap (λ m. run_count (take (suc n) values) + cond (get_or values (suc n) 0 == get_or values m 0) 0 1) (sym back)

-- the least of one more value
least_of-suc : (values : List ℕ) (n : ℕ) → suc n < length values → least_of (take (suc (suc n)) values) ≡ min (least_of (take (suc n) values)) (get_or values (suc n) 0)
least_of-suc [] n within = absurd (omega arith)
least_of-suc (value ∷ values) n within = ap (λ m. fold min value (take m values)) (sym (add-one n)) ∙ fold_more min value values n 0 (omega arith)

pub least_of-more : (values : List ℕ) (n : ℕ) → 0 < n → n < length values → least_of (take (n + 1) values) ≡ min (least_of (take n values)) (get_or values n 0)
least_of-more values zero some within = absurd (omega arith)
least_of-more values (suc n) some within = ap (λ m. least_of (take m values)) (add-one (suc n)) ∙ least_of-suc values n within
