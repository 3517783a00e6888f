-- What joins give, and what of it was handed over.
use Rattle.std.specs.Prelude.{◌≡◌, ℕ, zero, suc, ◌+◌, ◌-◌, ◌≤◌, ◌==◌, Bool, true, List, [], ◌∷◌, ◌++◌, map, filter, length, slice_index}
use Rattle.std.specs.List.{range_with_len}
use Rattle.definitions_blocks.specs.Columns.{max_rows}
use Rattle.definitions_operators.specs.Operators.{places_of, join}

-- the first places of a join's pairs, and the second ones
abbrev pub left_places : List ℕ → List ℕ → List ℕ
left_places values keys = map (λ pair. pair.0) (join values keys)

abbrev pub right_places : List ℕ → List ℕ → List ℕ
right_places values keys = map (λ pair. pair.1) (join values keys)

-- # For the proof

-- the same, value by value, the first of which has the place `first`
abbrev pub lefts_of : ℕ → List ℕ → List ℕ
lefts_of place found = map (λ _. place) found

abbrev pub lefts_from : List ℕ → ℕ → List ℕ → List ℕ
lefts_from keys first [] = []
lefts_from keys first (value ∷ values) = lefts_of first (places_of keys value) ++ lefts_from keys (first + 1) values

abbrev pub rights_from : List ℕ → List ℕ → List ℕ
rights_from keys [] = []
rights_from keys (value ∷ values) = places_of keys value ++ rights_from keys values

-- the places of a key from one on, and those from a link on
abbrev pub places_from : List ℕ → ℕ → ℕ → List ℕ
places_from keys key from = filter (λ place. slice_index keys place == key) (range_with_len from (length keys - from))

abbrev pub linked_places : List ℕ → ℕ → ℕ → List ℕ
linked_places keys key zero = []
linked_places keys key (suc place) = place ∷ places_from keys key (suc place)

-- a list begins with another
pub record IsFrontOf (front whole : List ℕ) : Type 0 where
  pub rest : List ℕ
  pub joins : front ++ rest ≡ whole

-- what holds a list may be given values
pub record MayTake (holds : List ℕ → Type 0) (scope : List ℕ → Bool) (values : List ℕ) : Type 0 where
  pub list : List ℕ
  pub held : holds list
  pub few : length list + length values ≤ max_rows
  pub in_scope : scope (list ++ values) ≡ true

-- a front of a list was taken
pub record HoldsFront (pushed : List ℕ → Type 0) (whole : List ℕ) : Type 0 where
  pub front : List ℕ
  pub held : pushed front
  pub is_front : IsFrontOf front whole
