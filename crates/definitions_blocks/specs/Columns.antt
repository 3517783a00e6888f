-- A column is a list of 64-bit numbers.
use Rattle.std.specs.Prelude.{ℕ, ◌≤◌, List, length}
use Rattle.std.specs.List.{AllByRecursion}
use Rattle.definitions_blocks.specs.Words.{IsWord}

-- how many values a column has at most: 2^28
abbrev pub max_rows : ℕ
max_rows = 268435456

-- a column: not too many numbers, each below 2^64
pub record IsColumn (values : List ℕ) : Type 0 where
  pub few : length values ≤ max_rows
  pub words : AllByRecursion IsWord values
