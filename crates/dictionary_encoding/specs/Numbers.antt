-- Texts by their numbers: the places of the distinct ones in the order of their first occurrence.
use Rattle.std.specs.Prelude.{◌≡◌, ℕ, ◌<◌, ◌≤◌, ◌⊎◌, ◌++◌, ◌∷◌, [], List, Vec, map, length, slice_index_or}
use Rattle.std.specs.List.{All, Contains}
use Rattle.std.specs.declared.alloc.Global.{Global}
use Rattle.catalog_core.specs.Texts.{Text}

-- the texts that the keys of a set are
abbrev pub texts_of : List (Vec ℕ Global) → List Text
texts_of keys = map (λ key. key.items) keys

-- the texts that have these numbers
abbrev pub texts_at : List Text → List ℕ → List Text
texts_at distinct numbers = map (λ number. slice_index_or distinct number []) numbers

-- the texts are as before, or the text is one more
abbrev pub Grows : List Text → Text → List Text → Type 0
Grows old text new = (new ≡ old) ⊎ (new ≡ old ++ text ∷ [])

-- the numbers are places among the distinct texts, each of these is the text of a number, and there are no more of them than numbers
pub record AreNumbers (distinct : List Text) (numbers : List ℕ) : Type 0 where
  pub within : All (λ number. number < length distinct) numbers
  pub used : All (Contains (texts_at distinct numbers)) distinct
  pub few : length distinct ≤ length numbers
