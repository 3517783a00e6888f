-- Rows that were drawn.
use Rattle.std.specs.Prelude.{◌≡◌, ℕ, Bool, List}
use Rattle.definitions_operators.specs.Operators.{places_where}

-- the list has those of n places at which some test holds
abbrev pub ArePlaces : ℕ → List ℕ → Type 0
ArePlaces n rows = (test : ℕ → Bool) × (rows ≡ places_where test n)
