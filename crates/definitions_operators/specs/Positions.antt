-- What a position list is, whatever made it.
use Rattle.std.specs.Prelude.{◌≡◌, ℕ, ◌+◌, ◌<◌, ◌↔◌, Bool, IsTrue, List, length, slice_index, Contains}
use Rattle.definitions_operators.specs.Operators.{places_where}

-- each number is below the next
abbrev pub Rises : List ℕ → Type 0
Rises numbers = (k : ℕ) → k + 1 < length numbers → slice_index numbers k < slice_index numbers (k + 1)

-- the numbers rise, and are just those of n places at which the test holds
pub record IsPositionList (test : ℕ → Bool) (n : ℕ) (positions : List ℕ) : Type 0 where
  pub rises : Rises positions
  pub members : (place : ℕ) → Contains positions place ↔ ((place < n) × IsTrue (test place))

-- of n places a test has one position list: those at which it holds
abbrev pub OnePositionList : Type 0
OnePositionList = (test : ℕ → Bool) (n : ℕ) (positions : List ℕ) → IsPositionList test n positions ↔ (positions ≡ places_where test n)
