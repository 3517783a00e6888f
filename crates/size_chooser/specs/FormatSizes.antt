-- What is kept of a list in one format.
use Rattle.std.specs.Prelude.{ℕ, List}
use Rattle.block_core.specs.declared.formats.Format.{Format}
use Rattle.size_chooser.specs.declared.format_sums.FormatSum.{FormatSum}
use Rattle.size_chooser.specs.FormatSums.{IsFormatSumOf}
use Rattle.size_chooser.specs.Tallies.{IsTallyOf}

-- what is kept of a list: how many values there were, those that make no whole block yet, and the sum of the whole blocks
pub record FormatKept : Type 0 where
  pub count : ℕ
  pub waiting : List ℕ
  pub sum : FormatSum

abbrev pub format_kept : ℕ → List ℕ → FormatSum → FormatKept
format_kept count waiting sum = record { count = count; waiting = waiting; sum = sum }

-- the format that is measured
abbrev pub format_in : FormatKept → Format
format_in size = size.sum.format

-- the size is that of the list
abbrev pub IsFormatSizeOf : FormatKept → List ℕ → Type 0
IsFormatSizeOf size values = IsTallyOf IsFormatSumOf size.count size.waiting size.sum values
