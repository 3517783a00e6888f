-- Pairs of an earlier group and a value, and how a table numbers them.
use Rattle.std.specs.Prelude.{◌≡◌, ℕ, Bool, ◌&&◌, nat_eq, List, map, zip}
use Rattle.std.specs.List.{position_or_len}
use Rattle.definitions_operators.specs.Groups.{distinct}

-- the pairs are equal
abbrev pub same_pair : ℕ × ℕ → ℕ × ℕ → Bool
same_pair a b = nat_eq a.0 b.0 && nat_eq a.1 b.1

-- the place at which a list has a pair first; its length if it has it not
abbrev pub number_in : List (ℕ × ℕ) → ℕ × ℕ → ℕ
number_in pairs pair = position_or_len (same_pair pair) pairs

-- a list has each of its pairs once
abbrev pub HasEachOnce : List (ℕ × ℕ) → Type 0
HasEachOnce pairs = distinct same_pair pairs ≡ pairs

-- the pairs of a column for which there are no earlier groups, and of one for which there are
abbrev pub pairs_of : List ℕ → List (ℕ × ℕ)
pairs_of values = map (λ value. (0, value)) values

abbrev pub pairs_within : List ℕ → List ℕ → List (ℕ × ℕ)
pairs_within before values = zip before values
