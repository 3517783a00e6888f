-- Where a text stands among texts that rise.
use Rattle.std.specs.Prelude.{◌≡◌, ℕ, ◌<◌, ◌≤◌, Bool, true, false, not, List, [], length, slice_index_or}
use Rattle.catalog_core.specs.Texts.{Text, is_below}

-- whether a rank of the text counts another text: it comes before the text or, in a rank through it, is equal to it
abbrev pub is_counted : Bool → Text → Text → Bool
is_counted true text other = not (is_below text other)
is_counted false text other = is_below other text

-- the place parts the texts: those before it are counted, and the others are not
pub record PartsAt (through : Bool) (text : Text) (texts : List Text) (place : ℕ) : Type 0 where
  pub within : place ≤ length texts
  pub below : (k : ℕ) → k < place → is_counted through text (slice_index_or texts k []) ≡ true
  pub above : (k : ℕ) → place ≤ k → k < length texts → is_counted through text (slice_index_or texts k []) ≡ false
