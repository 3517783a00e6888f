-- A survey, as values are added one after the other.
use Rattle.std.proofs.Common.{◌≡◌, ℕ, ◌+◌, ◌-◌, ◌<◌, ◌≤◌, ◌==◌, cond, min, max, bit_or, List, [], ◌∷◌, length, get_or, take, fold, sym, ap, ap₂, ◌∙◌, arith}
use Rattle.std.proofs.lemmas.List.{length-take}
use Rattle.std.proofs.lemmas.List.Sums.{fold_more}
use Rattle.definitions_blocks.specs.Differences.{difference, lagged_differences, delta1_of, delta16_of}
use Rattle.definitions_blocks.specs.Runs.{run_count}
use Rattle.definitions_blocks.proofs.DeltaLaws.{length-lagged_differences}
use Rattle.definitions_blocks.proofs.RunListLaws.{run_count-most}
use Rattle.size_chooser.specs.declared.surveys.Survey.{Survey}
use Rattle.size_chooser.specs.Surveys.{bits_of, IsSurveyOf, IsNext}
use Rattle.size_chooser.proofs.FrontLemmas.{lagged_differences-take, delta1_of-at, delta1_of-before, run_count-more, least_of-more}

-- the bits of one more difference
pub bits_of-more : (lag : ℕ) (values : List ℕ) (place old new d : ℕ) → 0 < place → place < length values → old ≡ bits_of (lagged_differences lag (take place values)) → new ≡ bit_or old d
    → get_or (lagged_differences lag values) place 0 ≡ d → new ≡ bits_of (lagged_differences lag (take (place + 1) values))
bits_of-more lag values place old new d some within was is at =
    let ds = lagged_differences lag values in
    let long : length ds ≡ length values = length-lagged_differences lag values in
    let front : old ≡ fold bit_or 0 (take place ds) = was ∙ ap bits_of (lagged_differences-take lag values place some) in
    is ∙ ap₂ (λ (a b : ℕ). bit_or a b) front (sym at) ∙ sym (fold_more bit_or 0 ds place 0 (omega arith)) ∙ ap bits_of (sym (lagged_differences-take lag values (place + 1) (omega arith)))

-- the runs of one more difference
pub step_runs-more : (values : List ℕ) (place : ℕ) → 0 < place → place < length values
    → run_count (delta1_of (take (place + 1) values)) ≡ run_count (delta1_of (take place values))
    + cond (difference (get_or values place 0) (get_or values (place - 1) 0) == difference (get_or values (place - 1) 0) (get_or values (place - 2) 0)) 0 1
step_runs-more values place some within =
    let ds = delta1_of values in
    let long : length ds ≡ length values = length-lagged_differences 1 values in
    ap run_count (lagged_differences-take 1 values (place + 1) (omega arith)) ∙ run_count-more ds place some (omega arith)
    ∙ ap₂ (λ (a b : ℕ). a + b) (ap run_count (sym (lagged_differences-take 1 values place some)))
    (ap₂ (λ (a b : ℕ). cond (a == b) 0 1) (delta1_of-at values place some within) (delta1_of-before values place some within))

-- the survey of one more value
pub IsSurveyOf-next : (old new : Survey) (values : List ℕ) (place earlier : ℕ) → 0 < place → place < length values → IsSurveyOf old (take place values)
    → IsNext old new (get_or values place 0) (get_or values (place - 1) 0) (get_or values (place - 2) 0) earlier → get_or (delta16_of values) place 0 ≡ difference (get_or values place 0) earlier
    → IsSurveyOf new (take (place + 1) values)
IsSurveyOf-next old new values place earlier some within was is gap =
    let value = get_or values place 0 in
    record {
      all_is = is.all_is ∙ ap (λ a. bit_or a value) was.all_is ∙ sym (fold_more bit_or 0 values place 0 within);
      steps_is = bits_of-more 1 values place old.steps new.steps (difference value (get_or values (place - 1) 0)) some within was.steps_is is.steps_is (delta1_of-at values place some within);
      gaps_is = bits_of-more 16 values place old.gaps new.gaps (difference value earlier) some within was.gaps_is is.gaps_is gap;
      low_is = is.low_is ∙ ap (λ a. min a value) was.low_is ∙ sym (least_of-more values place some within);
      high_is = is.high_is ∙ ap (λ a. max a value) was.high_is ∙ sym (fold_more max 0 values place 0 within);
      runs_is = is.runs_is ∙ ap (λ n. n + cond (value == get_or values (place - 1) 0) 0 1) was.runs_is ∙ sym (run_count-more values place some within);
      step_runs_is = is.step_runs_is ∙ ap (λ n. n + cond (difference value (get_or values (place - 1) 0) == difference (get_or values (place - 1) 0) (get_or values (place - 2) 0)) 0 1) was.step_runs_is
          ∙ sym (step_runs-more values place some within);
    }

-- the survey of the first value
pub IsSurveyOf-first : (survey : Survey) (values : List ℕ) → 0 < length values → IsSurveyOf survey (get_or values 0 0 ∷ []) → IsSurveyOf survey (take 1 values)
IsSurveyOf-first survey [] some is = absurd (omega arith)
IsSurveyOf-first survey (value ∷ values) some is = is

-- there are no more runs than values
pub runs_few : (survey : Survey) (values : List ℕ) (place : ℕ) → IsSurveyOf survey (take place values) → survey.runs ≤ place
runs_few survey values place is = omega (arith, is.runs_is, run_count-most (take place values), length-take place values)

pub step_runs_few : (survey : Survey) (values : List ℕ) (place : ℕ) → IsSurveyOf survey (take place values) → survey.step_runs ≤ place
step_runs_few survey values place is = omega (arith, is.step_runs_is, run_count-most (delta1_of (take place values)), length-lagged_differences 1 (take place values), length-take place values)
