-- The runs that bytes encode: two bytes say how many, and each stands in a cell of ten bytes.
use Rattle.std.specs.Prelude.{◌≡◌, ◌≢◌, ℕ, ◌+◌, ◌-◌, ◌*◌, ◌<◌, ◌≤◌, List, [], ◌∷◌, length, take, drop, map, Option, Some, None}
use Rattle.std.specs.Int.{from_le_bytes, w16, w64}
use Rattle.std.specs.Simd.{first_chunks}
use Rattle.definitions_blocks.specs.Blocks.{block_values}
use Rattle.definitions_blocks.specs.Runs.{Run}
use Rattle.run_formats.specs.declared.pairs.RunIter.{RunIter}

-- how many runs the bytes say there are
unfoldable pub count_in : List ℕ → ℕ
count_in bytes = from_le_bytes w16 (take 2 bytes)

-- the value of a cell
unfoldable pub value_in : List ℕ → ℕ
value_in cell = from_le_bytes w64 (take 8 cell)

-- its length
unfoldable pub length_in : List ℕ → ℕ
length_in cell = from_le_bytes w16 (drop 8 cell)

-- the run in a cell
abbrev pub run_in : List ℕ → Run
run_in cell = record { value = value_in cell; length = length_in cell }

-- the first cells
abbrev pub cells_in : ℕ → List ℕ → List (List ℕ)
cells_in count bytes = first_chunks 10 count (drop 2 bytes)

-- The runs cover so many values exactly, none is empty, none goes on with the one before it, and the first not with the
-- value before.
abbrev pub Passes : Option ℕ → ℕ → List Run → Type 0
Passes before left [] = left ≡ 0
Passes before left (run ∷ runs) = (0 < run.length) × (run.length ≤ left) × (before ≢ Some run.value) × Passes (Some run.value) (left - run.length) runs

-- the bytes begin with a block
pub record BeginsWithRuns (bytes : List ℕ) : Type 0 where
  pub headed : 2 ≤ length bytes
  pub some : 0 < count_in bytes
  pub most : count_in bytes ≤ 1024
  pub whole : 2 + 10 * count_in bytes ≤ length bytes
  pub passes : Passes None block_values (map run_in (cells_in (count_in bytes) bytes))

-- the run that a pair says
abbrev pub run_of : ℕ × ℕ → Run
run_of pair = record { value = pair.0; length = pair.1 }

-- the runs that are left
abbrev pub runs_left : RunIter → List Run
runs_left runs = map run_in runs.cells.now
