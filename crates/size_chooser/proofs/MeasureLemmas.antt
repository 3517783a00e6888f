-- The sums of one block, from its survey.
use Rattle.std.proofs.Common.{◌≡◌, ℕ, ◌-◌, List}
use Rattle.std.specs.Int.{leading_zeros, w64}
use Rattle.definitions_blocks.specs.Blocks.{IsFull}
use Rattle.definitions_blocks.specs.Packed.{IsWidth}
use Rattle.definitions_blocks.specs.Encodings.{width_of}
use Rattle.definitions_blocks.specs.Differences.{delta1_of, delta16_of, reference_of}
use Rattle.definitions_blocks.proofs.DeltaLaws.{delta1_of-full, delta16_of-full}
use Rattle.size_chooser.specs.declared.surveys.Survey.{Survey}
use Rattle.size_chooser.specs.Surveys.{IsSurveyOf}
use Rattle.size_chooser.proofs.BitLemmas.{IsWidth-bits, width_from_bits, width_from_spread}

-- what a survey says of a block's encodings
pub record Says (survey : Survey) (values : List ℕ) : Type 0 where
  pub widest : IsWidth (64 - leading_zeros w64 survey.all) values
  pub width : width_of values ≡ 64 - leading_zeros w64 survey.all
  pub step_width : width_of (delta1_of values) ≡ 64 - leading_zeros w64 survey.steps
  pub gap_width : width_of (delta16_of values) ≡ 64 - leading_zeros w64 survey.gaps
  pub spread_width : width_of (reference_of values) ≡ 64 - leading_zeros w64 (survey.high - survey.low)

pub says : (survey : Survey) (values : List ℕ) → IsFull values → IsSurveyOf survey values → Says survey values
says survey values full is =
    record {
      widest = IsWidth-bits values survey.all full is.all_is;
      width = width_from_bits values survey.all full is.all_is;
      step_width = width_from_bits (delta1_of values) survey.steps (delta1_of-full values full) is.steps_is;
      gap_width = width_from_bits (delta16_of values) survey.gaps (delta16_of-full values full) is.gaps_is;
      spread_width = width_from_spread values survey.low survey.high full is.low_is is.high_is;
    }
