-- Runs pass exactly if they are those of so many values.
use Rattle.std.proofs.Common.{◌≡◌, ◌≢◌, ℕ, ◌+◌, ◌-◌, ◌<◌, Option, Some, List, [], ◌∷◌, length, sym, ap, ◌∙◌, arith}
use Rattle.std.specs.List.{AllByRecursion}
use Rattle.definitions_blocks.specs.Runs.{Run, run_values, NeighboursDiffer}
use Rattle.definitions_blocks.proofs.RunListLaws.{length-run_values}
use Rattle.run_formats.specs.Cells.{Passes}

-- the first run is one of another value than the one before
abbrev pub Follows : Option ℕ → List Run → Type 0
Follows before [] = Unit {0}
Follows before (run ∷ runs) = before ≢ Some run.value

Follows-next : (run : Run) (runs : List Run) → NeighboursDiffer (run ∷ runs) → Follows (Some run.value) runs
Follows-next run [] differ = tt
Follows-next run (next ∷ runs) differ = λ same. differ.0 (cc)

NeighboursDiffer-next : (run : Run) (runs : List Run) → NeighboursDiffer (run ∷ runs) → NeighboursDiffer runs
NeighboursDiffer-next run [] differ = tt
NeighboursDiffer-next run (next ∷ runs) differ = differ.1

NeighboursDiffer-from : (run : Run) (runs : List Run) → Follows (Some run.value) runs → NeighboursDiffer runs → NeighboursDiffer (run ∷ runs)
NeighboursDiffer-from run [] follows differ = tt
NeighboursDiffer-from run (next ∷ runs) follows differ = (λ same. follows (ap (λ (n : ℕ). Some n) same), differ)

pub Passes-from : (before : Option ℕ) (left : ℕ) (runs : List Run) → AllByRecursion (λ run. 0 < run.length) runs → NeighboursDiffer runs → Follows before runs → length (run_values runs) ≡ left → Passes before left runs
Passes-from before left [] some differ follows long = sym long
Passes-from before left (run ∷ runs) some differ follows long =
    let size : run.length + length (run_values runs) ≡ left = sym (length-run_values run runs) ∙ long in (
      some.0,
      omega arith,
      follows,
      Passes-from (Some run.value) (left - run.length) runs some.1 (NeighboursDiffer-next run runs differ) (Follows-next run runs differ) (omega arith),
    )

-- what runs are that pass
pub record Passed (before : Option ℕ) (left : ℕ) (runs : List Run) : Type 0 where
  pub nonempty : AllByRecursion (λ run. 0 < run.length) runs
  pub maximal : NeighboursDiffer runs
  pub follows : Follows before runs
  pub covers : length (run_values runs) ≡ left

pub Passes-gives : (before : Option ℕ) (left : ℕ) (runs : List Run) → Passes before left runs → Passed before left runs
Passes-gives before left [] passes = record { nonempty = tt; maximal = tt; follows = tt; covers = sym passes }
Passes-gives before left (run ∷ runs) passes =
    let rest : Passed (Some run.value) (left - run.length) runs = Passes-gives (Some run.value) (left - run.length) runs passes.3 in
    record {
      nonempty = (passes.0, rest.nonempty);
      maximal = NeighboursDiffer-from run runs rest.follows rest.maximal;
      follows = passes.2;
      covers = length-run_values run runs ∙ omega (arith, rest.covers, passes.1);
    }
