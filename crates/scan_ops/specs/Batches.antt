-- What an emitter took, and what waits to be handed over to it.
use Rattle.std.specs.Prelude.{◌≡◌, ℕ, List, ◌++◌}

-- the emitter took the front of a list, and the rest of it waits
pub record HoldsWith (pushed : List ℕ → Type 0) (waiting list : List ℕ) : Type 0 where
  pub taken : List ℕ
  pub held : pushed taken
  pub joins : taken ++ waiting ≡ list
