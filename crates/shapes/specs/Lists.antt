-- The values of shapes that are not random.
use Rattle.std.specs.Prelude.{◌≡◌, ℕ, ◌+◌, ◌*◌, ◌/◌, ◌%◌, ◌^◌, ◌<◌, max, zero, suc, List, slice_index, EachIndex}
use Rattle.shapes.specs.declared.lists.Shape.{Shape}
use Rattle.shapes.specs.declared.lists.Shape.TheVariants as shape

-- one of two values in turn, for so many places each
abbrev pub turn_at : ℕ → ℕ → ℕ → ℕ → ℕ
turn_at first second times place = turn_of (place / times % 2)
  where
    turn_of : ℕ → ℕ
    turn_of zero = first
    turn_of (suc _) = second

abbrev pub AreOf : Shape → List ℕ → Type 0
AreOf (shape.Constant value) values = EachIndex values (λ place. slice_index values place ≡ value)
AreOf (shape.Stepping first step) values = EachIndex values (λ place. slice_index values place ≡ (first + step * place) % 2 ^ 64)
AreOf (shape.Counting times below) values = EachIndex values (λ place. slice_index values place ≡ place / max times 1 % max below 1)
AreOf (shape.Turning first second times) values = EachIndex values (λ place. slice_index values place ≡ turn_at first second (max times 1) place)
AreOf (shape.Scattered _) values = Unit
AreOf (shape.Random _) values = Unit
