-- What one pass over values finds.
use Rattle.std.specs.Prelude.{◌≡◌, ℕ, ◌+◌, ◌==◌, min, max, bit_or, List, fold, if◌then◌else◌}
use Rattle.definitions_blocks.specs.Differences.{difference, delta1_of, delta16_of, least_of}
use Rattle.definitions_blocks.specs.Runs.{run_count}
use Rattle.size_chooser.specs.declared.surveys.Survey.{Survey}

-- a number that has each bit of the values, and no other
abbrev pub bits_of : List ℕ → ℕ
bits_of values = fold bit_or 0 values

-- the greatest value
abbrev pub greatest_of : List ℕ → ℕ
greatest_of values = fold max 0 values

-- The survey of values: the bits of the values and of both differences, the least and the greatest value, and how many runs
-- the values and their differences have.
pub record IsSurveyOf (survey : Survey) (values : List ℕ) : Type 0 where
  pub all_is : survey.all ≡ bits_of values
  pub steps_is : survey.steps ≡ bits_of (delta1_of values)
  pub gaps_is : survey.gaps ≡ bits_of (delta16_of values)
  pub low_is : survey.low ≡ least_of values
  pub high_is : survey.high ≡ greatest_of values
  pub runs_is : survey.runs ≡ run_count values
  pub step_runs_is : survey.step_runs ≡ run_count (delta1_of values)

-- The survey with one more value. `before` and `twice` are the two values before it, `earlier` is the one 16 places before.
pub record IsNext (old new : Survey) (value before twice earlier : ℕ) : Type 0 where
  pub all_is : new.all ≡ bit_or old.all value
  pub steps_is : new.steps ≡ bit_or old.steps (difference value before)
  pub gaps_is : new.gaps ≡ bit_or old.gaps (difference value earlier)
  pub low_is : new.low ≡ min old.low value
  pub high_is : new.high ≡ max old.high value
  pub runs_is : new.runs ≡ old.runs + (if value == before then 0 else 1)
  pub step_runs_is : new.step_runs ≡ old.step_runs + (if difference value before == difference before twice then 0 else 1)
