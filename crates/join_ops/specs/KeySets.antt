-- What a set of keys is.
use Rattle.std.specs.Prelude.{◌≡◌, ◌≢◌, ℕ, ◌+◌, ◌<◌, ◌==◌, List, [], ◌∷◌, length, slice_index, if◌then◌else◌}
use Rattle.definitions_operators.specs.Operators.{has}

-- the lists have the same keys, in any order and as often as they like
abbrev pub HaveSameKeys : List ℕ → List ℕ → Type 0
HaveSameKeys keys others = (key : ℕ) → has keys key ≡ has others key

abbrev pub AreDistinct : List ℕ → Type 0
AreDistinct keys = (a b : ℕ) → a < b → b < length keys → slice_index keys a ≢ slice_index keys b

-- a set has just the keys of a list, each once
pub record IsSetOf (set keys : List ℕ) : Type 0 where
  pub same : HaveSameKeys set keys
  pub distinct : AreDistinct set

-- the keys that a table of bytes marks by 1, the first byte standing for `low`
abbrev pub marked : ℕ → List ℕ → List ℕ
marked low [] = []
marked low (mark ∷ marks) = if mark == 1 then low ∷ marked (low + 1) marks else marked (low + 1) marks

-- what contracts see of a table of bytes: where it begins, how many bytes it has, and its keys
pub record DenseKeys : Type 0 where
  pub low : ℕ
  pub len : ℕ
  pub keys : List ℕ

abbrev pub dense_keys : ℕ → ℕ → List ℕ → DenseKeys
dense_keys low len keys = record { low = low; len = len; keys = keys }
