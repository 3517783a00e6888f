-- Steps that are computed: each goes on with a value or ends with a refusal.
use Rattle.std.specs.Prelude.{◌≡◌, ◌≢◌, ℕ, ◌+◌, List, [], ◌∷◌, ◌++◌, Option, Some, None, Result, Ok, Err}

-- first the one, and then the next with what it gave
abbrev pub and_then : {A B : Type 0} → Option A → (A → Option B) → Option B
and_then None next = None
and_then (Some value) next = next value

-- the same of steps that refuse with a cause
abbrev pub bind : {A B E : Type 0} → Result A E → (A → Result B E) → Result B E
bind (Ok value) next = next value
bind (Err refusal) next = Err refusal

-- the step for each item in turn, with the item's number, until one refuses
abbrev pub walk : {A B E : Type 0} → (ℕ → A → Result B E) → ℕ → List A → Result (List B) E
walk step number [] = Ok []
walk step number (item ∷ rest) =
    bind (step number item) (λ first.
    bind (walk step (number + 1) rest) (λ more.
    Ok (first ∷ more)))

-- the code's result is the meaning, unless memory ran out
abbrev pub Answers : {A E : Type 0} → E → Result A E → Result A E → Type 0
Answers memory meaning (Ok value) = meaning ≡ Ok value
Answers memory meaning (Err refusal) = refusal ≢ memory → meaning ≡ Err refusal
