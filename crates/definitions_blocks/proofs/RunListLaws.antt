-- Values have one list of runs, and so many of them.
use Rattle.std.proofs.Common.{◌≡◌, ◌≢◌, ℕ, zero, suc, ◌+◌, ◌<◌, ◌≤◌, Bool, List, [], ◌∷◌, ◌++◌, length, replicate, if◌then◌else◌, refl, sym, ap, ◌∙◌, subst, ⊎_elim, arith, length-append}
use Rattle.std.specs.Prelude.{◌==◌}
use Rattle.std.specs.List.{AllByRecursion}
use Rattle.std.proofs.lemmas.Bool.{cases_eq, eq-eqb, ne_eqb}
use Rattle.std.proofs.lemmas.List.{length-replicate}
use Rattle.definitions_blocks.specs.Blocks.{IsFull}
use Rattle.definitions_blocks.specs.Runs.{Run, run_values, NeighboursDiffer, AreRunsOf, runs_after, run_count}

-- the runs of so many of one value and then of values
abbrev pub runs_from : ℕ → ℕ → List ℕ → List Run
runs_from value count [] = record { value = value; length = count } ∷ []
runs_from value count (next ∷ values) = if next == value then runs_from value (suc count) values else record { value = value; length = count } ∷ runs_from next 1 values

-- the runs of values
abbrev pub runs_of : List ℕ → List Run
runs_of [] = []
runs_of (value ∷ values) = runs_from value 1 values

pub runs_from-same : (value count next : ℕ) (values : List ℕ) → next ≡ value → runs_from value count (next ∷ values) ≡ runs_from value (suc count) values
runs_from-same value count next values same =
    ap (λ (b : Bool). if b then runs_from value (suc count) values else record { value = value; length = count } ∷ runs_from next 1 values) (eq-eqb next value same)

pub runs_from-other : (value count next : ℕ) (values : List ℕ) → next ≢ value → runs_from value count (next ∷ values) ≡ record { value = value; length = count } ∷ runs_from next 1 values
runs_from-other value count next values other =
    ap (λ (b : Bool). if b then runs_from value (suc count) values else record { value = value; length = count } ∷ runs_from next 1 values) (ne_eqb next value other)

-- the first run is one of this value
abbrev pub StartsWith : ℕ → List Run → Type 0
StartsWith value [] = ⊥
StartsWith value (run ∷ runs) = run.value ≡ value

runs_from-starts : (value count : ℕ) (values : List ℕ) → StartsWith value (runs_from value count values)
runs_from-starts value count [] = refl
runs_from-starts value count (next ∷ values) =
    ⊎_elim (λ same. subst (StartsWith value) (sym (runs_from-same value count next values same)) (runs_from-starts value (suc count) values))
    (λ other. subst (StartsWith value) (sym (runs_from-other value count next values other)) refl)
    (cases_eq next value)

NeighboursDiffer-cons : (run : Run) (runs : List Run) (value : ℕ) → StartsWith value runs → value ≢ run.value → NeighboursDiffer runs → NeighboursDiffer (run ∷ runs)
NeighboursDiffer-cons run [] value starts other differ = tt
NeighboursDiffer-cons run (next ∷ runs) value starts other differ = (λ same. other (sym starts ∙ sym same), differ)

NeighboursDiffer-rest : (run : Run) (runs : List Run) → NeighboursDiffer (run ∷ runs) → NeighboursDiffer runs
NeighboursDiffer-rest run [] differ = tt
NeighboursDiffer-rest run (next ∷ runs) differ = differ.1

runs_from-nonempty : (value count : ℕ) (values : List ℕ) → 0 < count → AllByRecursion (λ run. 0 < run.length) (runs_from value count values)
runs_from-nonempty value count [] some = (some, tt)
runs_from-nonempty value count (next ∷ values) some =
    ⊎_elim (λ same. subst (AllByRecursion (λ run. 0 < run.length)) (sym (runs_from-same value count next values same)) (runs_from-nonempty value (suc count) values (omega arith)))
    (λ other. subst (AllByRecursion (λ run. 0 < run.length)) (sym (runs_from-other value count next values other)) (some, runs_from-nonempty next 1 values (omega arith)))
    (cases_eq next value)

runs_from-maximal : (value count : ℕ) (values : List ℕ) → NeighboursDiffer (runs_from value count values)
runs_from-maximal value count [] = tt
runs_from-maximal value count (next ∷ values) =
    ⊎_elim (λ same. subst NeighboursDiffer (sym (runs_from-same value count next values same)) (runs_from-maximal value (suc count) values))
    (λ other. subst NeighboursDiffer (sym (runs_from-other value count next values other))
    (NeighboursDiffer-cons record { value = value; length = count } (runs_from next 1 values) next (runs_from-starts next 1 values) other (runs_from-maximal next 1 values)))
    (cases_eq next value)

replicate-more : (count value : ℕ) (values : List ℕ) → replicate (suc count) value ++ values ≡ replicate count value ++ (value ∷ values)
replicate-more zero value values = refl
replicate-more (suc count) value values = ap (λ (rest : List ℕ). value ∷ rest) (replicate-more count value values)

pub run_values-runs_from : (value count : ℕ) (values : List ℕ) → run_values (runs_from value count values) ≡ replicate count value ++ values
run_values-runs_from value count [] = refl
run_values-runs_from value count (next ∷ values) =
    ⊎_elim (λ same.
    ap run_values (runs_from-same value count next values same) ∙ run_values-runs_from value (suc count) values ∙ replicate-more count value values
    ∙ ap (λ (n : ℕ). replicate count value ++ (n ∷ values)) (sym same))
    (λ other. ap run_values (runs_from-other value count next values other) ∙ ap (λ (rest : List ℕ). replicate count value ++ rest) (run_values-runs_from next 1 values))
    (cases_eq next value)

-- Values have one list of runs.

pub AreRunsOf-runs_of : (values : List ℕ) → AreRunsOf (runs_of values) values
AreRunsOf-runs_of [] = record { cover = refl; nonempty = tt; maximal = tt }
AreRunsOf-runs_of (value ∷ values) =
    record {
      cover = run_values-runs_from value 1 values;
      nonempty = runs_from-nonempty value 1 values (omega arith);
      maximal = runs_from-maximal value 1 values;
    }

runs_from-replicate : (more value count : ℕ) (values : List ℕ) → runs_from value count (replicate more value ++ values) ≡ runs_from value (more + count) values
runs_from-replicate zero value count values = ap (λ (n : ℕ). runs_from value n values) (omega arith)
runs_from-replicate (suc more) value count values =
    runs_from-same value count value (replicate more value ++ values) refl ∙ runs_from-replicate more value (suc count) values
    ∙ ap (λ (n : ℕ). runs_from value n values) (omega arith)

-- runs that could not be longer are the runs of what they cover
runs_from-run_values : (runs : List Run) (value count : ℕ) → AllByRecursion (λ run. 0 < run.length) runs → NeighboursDiffer (record { value = value; length = count } ∷ runs) → runs_from value count (run_values runs) ≡ record { value = value; length = count } ∷ runs
runs_from-run_values [] value count some differ = refl
runs_from-run_values (run ∷ runs) value count some differ =
    by run.length refl some.0 (runs_from-run_values runs run.value run.length some.1 differ.1)
  where
    by : (n : ℕ) → run.length ≡ n → 0 < n → runs_from run.value run.length (run_values runs) ≡ run ∷ runs → runs_from value count (run_values (run ∷ runs)) ≡ record { value = value; length = count } ∷ (run ∷ runs)
    by zero is none rest = absurd (omega arith)
    by (suc more) is _ rest =
        ap (λ (n : ℕ). runs_from value count (replicate n run.value ++ run_values runs)) is
        ∙ runs_from-other value count run.value (replicate more run.value ++ run_values runs) (λ same. differ.0 (sym same))
        ∙ ap (λ (rest : List Run). record { value = value; length = count } ∷ rest)
        (runs_from-replicate more run.value 1 (run_values runs) ∙ ap (λ (n : ℕ). runs_from run.value n (run_values runs)) (omega arith ∙ sym is)
        ∙ rest)

pub runs_of-run_values : (runs : List Run) → AllByRecursion (λ run. 0 < run.length) runs → NeighboursDiffer runs → runs_of (run_values runs) ≡ runs
runs_of-run_values [] some differ = refl
runs_of-run_values (run ∷ runs) some differ = by run.length refl some.0
  where
    by : (n : ℕ) → run.length ≡ n → 0 < n → runs_of (run_values (run ∷ runs)) ≡ run ∷ runs
    by zero is none = absurd (omega arith)
    by (suc more) is _ =
        ap (λ (n : ℕ). runs_of (replicate n run.value ++ run_values runs)) is
        ∙ runs_from-replicate more run.value 1 (run_values runs) ∙ ap (λ (n : ℕ). runs_from run.value n (run_values runs)) (omega arith ∙ sym is)
        ∙ runs_from-run_values runs run.value run.length some.1 differ

pub AreRunsOf-is : (runs : List Run) (values : List ℕ) → AreRunsOf runs values → runs ≡ runs_of values
AreRunsOf-is runs values are = sym (runs_of-run_values runs are.nonempty are.maximal) ∙ ap runs_of are.cover

pub AreRunsOf-one : (runs others : List Run) (values : List ℕ) → AreRunsOf runs values → AreRunsOf others values → runs ≡ others
AreRunsOf-one runs others values are be = AreRunsOf-is runs values are ∙ sym (AreRunsOf-is others values be)

-- How many runs there are.

pub length-runs_from : (value count : ℕ) (values : List ℕ) → length (runs_from value count values) ≡ 1 + runs_after value values
length-runs_from value count [] = refl
length-runs_from value count (next ∷ values) =
    ⊎_elim (λ same.
    let is : length (runs_from value count (next ∷ values)) ≡ 1 + runs_after value values = ap length (runs_from-same value count next values same) ∙ length-runs_from value (suc count) values in
    let after : runs_after value (next ∷ values) ≡ 0 + runs_after next values = ap (λ (b : Bool). (if b then 0 else 1) + runs_after next values) (eq-eqb next value same) in
    let one : runs_after value values ≡ runs_after next values = ap (λ (n : ℕ). runs_after n values) (sym same) in
    is ∙ omega arith)
    (λ other.
    let is : length (runs_from value count (next ∷ values)) ≡ suc (1 + runs_after next values) = ap length (runs_from-other value count next values other) ∙ ap (λ (n : ℕ). suc n) (length-runs_from next 1 values) in
    let after : runs_after value (next ∷ values) ≡ 1 + runs_after next values = ap (λ (b : Bool). (if b then 0 else 1) + runs_after next values) (ne_eqb next value other) in
    is ∙ omega arith)
    (cases_eq next value)

pub length-runs_of : (values : List ℕ) → length (runs_of values) ≡ run_count values
length-runs_of [] = refl
length-runs_of (value ∷ values) = length-runs_from value 1 values

pub AreRunsOf-count : (runs : List Run) (values : List ℕ) → AreRunsOf runs values → length runs ≡ run_count values
AreRunsOf-count runs values are = ap length (AreRunsOf-is runs values are) ∙ length-runs_of values

pub length-run_values : (run : Run) (runs : List Run) → length (run_values (run ∷ runs)) ≡ run.length + length (run_values runs)
length-run_values run runs =
    length-append (replicate run.length run.value) (run_values runs) ∙ ap (λ (n : ℕ). n + length (run_values runs)) (length-replicate run.length run.value)

-- there are as many runs as values at most
AllByRecursion-nonempty : (runs : List Run) → AllByRecursion (λ run. 0 < run.length) runs → length runs ≤ length (run_values runs)
AllByRecursion-nonempty [] some = omega arith
AllByRecursion-nonempty (run ∷ runs) some =
    omega (arith, some.0, AllByRecursion-nonempty runs some.1, length-run_values run runs)

pub run_count-most : (values : List ℕ) → run_count values ≤ length values
run_count-most values =
    let are : AreRunsOf (runs_of values) values = AreRunsOf-runs_of values in
    omega (arith, AllByRecursion-nonempty (runs_of values) are.nonempty, ap length are.cover, length-runs_of values)

pub run_count-least : (values : List ℕ) → 0 < length values → 0 < run_count values
run_count-least [] some = absurd (omega arith)
run_count-least (value ∷ values) some = omega arith

-- a full block has from 1 to 1,024 runs
pub record IsRunCount (count : ℕ) : Type 0 where
  pub some : 0 < count
  pub most : count ≤ 1024

pub IsFull-run_count : (values : List ℕ) → IsFull values → IsRunCount (run_count values)
IsFull-run_count values full =
    record {
      some = run_count-least values (omega (arith, full.whole));
      most = omega (arith, full.whole, run_count-most values);
    }
