-- Rows that were drawn rise, and so do their unions, which are as few.
use Rattle.std.proofs.Common.{ℕ, ◌≤◌, ◌<◌, All, List, length, slice_index, ◌||◌, refl, sym, subst, ap₂, ◌∙◌}
use Rattle.definitions_operators.specs.Operators.{is_within, positions_in, union}
use Rattle.definitions_operators.specs.Positions.{Rises}
use Rattle.definitions_operators.proofs.OperatorLaws.{union-where}
use Rattle.definitions_operators.proofs.PlaceLaws.{places_where-below, places_where-few, places_where-rise}
use Rattle.bench_operators.specs.Drawn.{ArePlaces}

pub ArePlaces-rise : (n : ℕ) (rows : List ℕ) → ArePlaces n rows → Rises rows
ArePlaces-rise n rows drawn = subst Rises (sym drawn.1) (places_where-rise drawn.0 n)

pub ArePlaces-few : (n : ℕ) (rows : List ℕ) → ArePlaces n rows → length rows ≤ n
ArePlaces-few n rows drawn = subst (λ (list : List ℕ). length list ≤ n) (sym drawn.1) (places_where-few drawn.0 n)

pub ArePlaces-below : (n : ℕ) (rows : List ℕ) → ArePlaces n rows → All (λ row. row < n) rows
ArePlaces-below n rows drawn = subst (All (λ row. row < n)) (sym drawn.1) (places_where-below drawn.0 n)

pub ArePlaces-union : (n : ℕ) (left right : List ℕ) → ArePlaces n left → ArePlaces n right → length (union left right) ≤ n
ArePlaces-union n left right first second =
    subst (λ (list : List ℕ). length list ≤ n) (sym (ap₂ union first.1 second.1 ∙ union-where first.0 second.0 n))
    (places_where-few (λ place. first.0 place || second.0 place) n)

pub ArePlaces-positions_in : (low high : ℕ) (values : List ℕ) → ArePlaces (length values) (positions_in low high values)
ArePlaces-positions_in low high values = (λ place. is_within low high (slice_index values place), refl)
