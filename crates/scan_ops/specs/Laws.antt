-- What intersections and unions mean.
use Rattle.std.specs.Prelude.{ℕ, ◌↔◌, ◌⊎◌, List, Contains}
use Rattle.definitions_operators.specs.Operators.{intersect, union}
use Rattle.definitions_operators.specs.Positions.{Rises}

-- the intersection of rising lists rises, and has just the numbers that stand in both
abbrev pub IntersectionsHaveBoth : Type 0
IntersectionsHaveBoth = (left right : List ℕ) → Rises left → Rises right
    → Rises (intersect left right) × ((number : ℕ) → Contains (intersect left right) number ↔ (Contains left number × Contains right number))

-- the union of rising lists rises, and has just the numbers that stand in one of them at least
abbrev pub UnionsHaveEither : Type 0
UnionsHaveEither = (left right : List ℕ) → Rises left → Rises right
    → Rises (union left right) × ((number : ℕ) → Contains (union left right) number ↔ (Contains left number ⊎ Contains right number))
