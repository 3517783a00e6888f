-- What a profile keeps of a list.
use Rattle.std.specs.Prelude.{ℕ, List}
use Rattle.size_chooser.specs.declared.sums.BlockSums.{BlockSums}
use Rattle.size_chooser.specs.Sums.{AreSumsOf}
use Rattle.size_chooser.specs.Tallies.{IsTallyOf}

-- what a profile keeps: how many values there were, those that make no whole block yet, and the sums of the whole blocks
pub record Kept : Type 0 where
  pub count : ℕ
  pub waiting : List ℕ
  pub sums : BlockSums

abbrev pub kept : ℕ → List ℕ → BlockSums → Kept
kept count waiting sums = record { count = count; waiting = waiting; sums = sums }

-- the profile is that of the list
abbrev pub IsProfileOf : Kept → List ℕ → Type 0
IsProfileOf profile values = IsTallyOf AreSumsOf profile.count profile.waiting profile.sums values
