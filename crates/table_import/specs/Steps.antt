-- Steps, each of which sees what the earlier ones gave.
use Rattle.std.specs.Prelude.{ℕ, ◌+◌, List, [], ◌∷◌, ◌++◌, Result, Ok}
use Rattle.definitions_outcomes.specs.Computed.{bind}

-- the step for each item in turn, with the item's number and what is done before it, until one refuses
abbrev pub walk_after : {A B E : Type 0} → (ℕ → List B → A → Result B E) → ℕ → List B → List A → Result (List B) E
walk_after step number done [] = Ok done
walk_after step number done (item ∷ rest) = bind (step number done item) (λ one. walk_after step (number + 1) (done ++ one ∷ []) rest)
