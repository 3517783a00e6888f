-- What a map from keys to their places gives.
use Rattle.std.specs.Prelude.{◌≡◌, ◌≢◌, ℕ, ◌+◌, ◌-◌, ◌^◌, ◌<◌, ◌≤◌, List, length, slice_index, Option, MatchOption}

-- the first place from a place on whose key is this one, or none if no key there is
abbrev pub IsNextFrom : List ℕ → ℕ → ℕ → Option ℕ → Type 0
IsNextFrom keys key from found = MatchOption found ((place : ℕ) → from ≤ place → place < length keys → slice_index keys place ≢ key)
    (λ place. (from ≤ place) × (place < length keys) × (slice_index keys place ≡ key) × ((earlier : ℕ) → from ≤ earlier → earlier < place → slice_index keys earlier ≢ key))

-- the same as a link: one more than the place, and 0 for none
pub record IsNextLink (keys : List ℕ) (key from link : ℕ) : Type 0 where
  pub none : link ≡ 0 → (place : ℕ) → from ≤ place → place < length keys → slice_index keys place ≢ key
  pub here : (place : ℕ) → place + 1 ≡ link → (from ≤ place) × (place < length keys) × (slice_index keys place ≡ key)
  pub first : (place : ℕ) → from ≤ place → place + 1 < link → slice_index keys place ≢ key

-- for each value from `low` on a link to the first place with that key, and for each place a link to the next one with the same key
pub record IsDirect (low : ℕ) (heads keys next : List ℕ) : Type 0 where
  pub some : 0 < length heads
  pub last : slice_index heads (length heads - 1) ≡ 0
  pub fits : low + length heads < 2 ^ 64 + 1
  pub few : length keys < 2 ^ 32
  pub linked : length next ≡ length keys
  pub within : (place : ℕ) → place < length keys → (low ≤ slice_index keys place) × (slice_index keys place + 1 < low + length heads)
  pub heads_are : (distance : ℕ) → distance + 1 < length heads → IsNextLink keys (low + distance) 0 (slice_index heads distance)
  pub next_are : (place : ℕ) → place < length keys → IsNextLink keys (slice_index keys place) (place + 1) (slice_index next place)
