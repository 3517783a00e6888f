-- Blocks of a column.
use Rattle.std.specs.Prelude.{◌≡◌, ℕ, List, length, take, drop, ◌*◌}
use Rattle.std.specs.List.{AllByRecursion}
use Rattle.definitions_blocks.specs.Words.{IsWord}

-- how many values a block has
abbrev pub block_values : ℕ
block_values = 1024

-- how many strands a packed block has: value i stands in strand i mod 16
abbrev pub strands : ℕ
strands = 16

-- a full block of 64-bit numbers
pub record IsFull (values : List ℕ) : Type 0 where
  pub whole : length values ≡ block_values
  pub words : AllByRecursion IsWord values

-- the values of a list from the block of this number on, at most a block
abbrev pub block_at : List ℕ → ℕ → List ℕ
block_at values number = take block_values (drop (number * block_values) values)
