-- What any pass over a list keeps of it.
use Rattle.std.specs.Prelude.{◌≡◌, ℕ, ◌%◌, ◌<◌, ◌≤◌, List, ◌++◌, length}
use Rattle.definitions_blocks.specs.Blocks.{block_values}
use Rattle.definitions_blocks.specs.Columns.{max_rows}

-- The values are whole blocks, which the meter has measured, and those that wait for more.
pub record IsSplit {Meter : Type 0} (measured : Meter → List ℕ → Type 0) (waiting : List ℕ) (meter : Meter) (values : List ℕ) : Type 0 where
  pub blocks : List ℕ
  pub whole : length blocks % block_values ≡ 0
  pub taken : measured meter blocks
  pub values_are : values ≡ blocks ++ waiting

-- The tally of a list: how many values it has, those that make no whole block, and a meter that has measured the others.
pub record IsTallyOf {Meter : Type 0} (measured : Meter → List ℕ → Type 0) (count : ℕ) (waiting : List ℕ) (meter : Meter) (values : List ℕ) : Type 0 where
  pub few : length values ≤ max_rows
  pub counted : count ≡ length values
  pub short : length waiting < block_values
  pub split : IsSplit measured waiting meter values
