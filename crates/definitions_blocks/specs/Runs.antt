-- A block as its runs.
use Rattle.std.specs.Prelude.{◌≡◌, ◌≢◌, ℕ, ◌+◌, ◌<◌, ◌==◌, List, [], ◌∷◌, ◌++◌, length, flat_map, replicate, if◌then◌else◌}
use Rattle.std.specs.List.{AllByRecursion}
use Rattle.std.specs.Int.{to_le_bytes, w16}
use Rattle.definitions_blocks.specs.Words.{word_bytes}
use Rattle.definitions_blocks.specs.Blocks.{IsFull}

-- a value, and how often it stands in a row
pub record Run : Type 0 where
  pub value : ℕ
  pub length : ℕ

-- the values of runs, one after the other
abbrev pub run_values : List Run → List ℕ
run_values runs = flat_map (λ run. replicate run.length run.value) runs

-- no two neighbours could be one run
abbrev pub NeighboursDiffer : List Run → Type 0
NeighboursDiffer [] = Unit {0}
NeighboursDiffer (run ∷ []) = Unit {0}
NeighboursDiffer (run ∷ next ∷ runs) = (run.value ≢ next.value) × NeighboursDiffer (next ∷ runs)

-- the runs of values: they cover them, none is empty, and none could be longer
pub record AreRunsOf (runs : List Run) (values : List ℕ) : Type 0 where
  pub cover : run_values runs ≡ values
  pub nonempty : AllByRecursion (λ run. 0 < run.length) runs
  pub maximal : NeighboursDiffer runs

-- a number in a file: two bytes, the little end first
unfoldable pub two_bytes : ℕ → List ℕ
two_bytes number = to_le_bytes w16 number

-- a run in a file: its value as a word, and its length
abbrev pub run_bytes : Run → List ℕ
run_bytes run = word_bytes run.value ++ two_bytes run.length

-- how many runs begin in the values that follow this one
abbrev pub runs_after : ℕ → List ℕ → ℕ
runs_after before [] = 0
runs_after before (value ∷ values) = (if value == before then 0 else 1) + runs_after value values

-- how many runs values have
abbrev pub run_count : List ℕ → ℕ
run_count [] = 0
run_count (value ∷ values) = 1 + runs_after value values

-- `runs`: how many runs there are, and then each
pub record IsRunsBlock (values bytes : List ℕ) : Type 0 where
  pub full : IsFull values
  pub runs : List Run
  pub are : AreRunsOf runs values
  pub encoded : bytes ≡ two_bytes (length runs) ++ flat_map run_bytes runs
