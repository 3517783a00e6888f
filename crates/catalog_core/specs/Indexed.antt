-- A dictionary file, and where each of its entries starts.
use Rattle.std.specs.Prelude.{◌≡◌, ℕ, ◌+◌, List, [], ◌∷◌, map, take, drop, length}
use Rattle.std.specs.Int.{from_le_bytes, w32}
use Rattle.catalog_core.specs.Texts.{Text}
use Rattle.catalog_core.specs.Dictionaries.{IsDictionaryFile}

-- what a dictionary keeps beside its file: where each entry starts
abbrev pub starts_from : ℕ → List Text → List ℕ
starts_from place [] = []
starts_from place (text ∷ texts) = place ∷ starts_from (place + 4 + length text) texts

-- the text of the entry that starts at a place
abbrev pub text_at : List ℕ → ℕ → Text
text_at bytes start = take (from_le_bytes w32 (take 4 (drop start bytes))) (drop (start + 4) bytes)

abbrev pub texts_at : List ℕ → List ℕ → List Text
texts_at bytes starts = map (text_at bytes) starts

-- the bytes are a dictionary file, and the places those of its entries
pub record IsIndexed (bytes starts : List ℕ) : Type 0 where
  pub file : IsDictionaryFile (texts_at bytes starts) bytes
  pub starts_are : starts ≡ starts_from 16 (texts_at bytes starts)
