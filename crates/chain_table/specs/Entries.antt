-- The entries of a chain, and what a walk along those of one key meets.
use Rattle.std.specs.Prelude.{◌≡◌, ◌≢◌, ℕ, ◌<◌, List, [], ◌∷◌, slice_index, Option, Some, None, MatchOption}

-- what contracts see of a chain: its entries' keys and values, in the order in which they came, and for how many there is room
pub record Entries : Type 0 where
  pub keys : List ℕ
  pub values : List ℕ
  pub room : ℕ

abbrev pub entries_of : List ℕ → List ℕ → ℕ → Entries
entries_of keys values room = record { keys = keys; values = values; room = room }

-- the newest of the first `bound` entries that has the key, or none if none has it
abbrev pub IsNewestBelow : List ℕ → ℕ → ℕ → Option ℕ → Type 0
IsNewestBelow keys key bound found = MatchOption found ((entry : ℕ) → entry < bound → slice_index keys entry ≢ key)
    (λ entry. (entry < bound) × (slice_index keys entry ≡ key) × ((later : ℕ) → entry < later → later < bound → slice_index keys later ≢ key))

-- what is met on the way from an entry of the key: this entry, then the next older one, and so on until there is none
abbrev pub IsWalk : List ℕ → ℕ → Option ℕ → List ℕ → Type 0
IsWalk keys key from [] = from ≡ None
IsWalk keys key from (entry ∷ walk) = (from ≡ Some entry) × ((next : Option ℕ) × IsNewestBelow keys key entry next × IsWalk keys key next walk)
