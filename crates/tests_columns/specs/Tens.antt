-- A list of which a file was worked out by hand.
use Rattle.std.specs.Prelude.{ℕ, List, [], ◌∷◌}

abbrev pub tens : List ℕ
tens = 10 ∷ 20 ∷ 30 ∷ 40 ∷ 50 ∷ []
