-- A list that a generic function pushes.
use Rattle.std.specs.Prelude.{ℕ, ◌*◌, zero, suc, List, [], ◌∷◌, ◌++◌}

-- the squares of the numbers below this one
abbrev pub squares : ℕ → List ℕ
squares zero = []
squares (suc number) = squares number ++ number * number ∷ []
