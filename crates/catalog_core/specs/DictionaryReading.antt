-- What a reader of a dictionary file knows so far.
use Rattle.std.specs.Prelude.{◌≡◌, ℕ, ◌+◌, ◌-◌, ◌/◌, ◌≤◌, min, Bool, true, List, [], ◌∷◌, ◌++◌, length, drop, Option, Some, None}
use Rattle.definitions_blocks.specs.Columns.{max_rows}
use Rattle.catalog_core.specs.Texts.{Text, IsText, is_below}
use Rattle.catalog_core.specs.Indexed.{starts_from}
use Rattle.catalog_core.specs.Dictionaries.{AreTexts, entry_of, entries_of, dictionary_head}

-- the bytes begin with the head of a count
pub record BeginsWithCount (count : ℕ) (bytes : List ℕ) : Type 0 where
  pub few : count ≤ max_rows
  pub within : 16 ≤ length bytes
  pub bytes_are : bytes ≡ dictionary_head count ++ drop 16 bytes

-- they begin with no head
abbrev pub LacksCount : List ℕ → Type 0
LacksCount bytes = (count : ℕ) (rest : List ℕ) → count ≤ max_rows → bytes ≡ dictionary_head count ++ rest → ⊥

-- the last of texts, if there is one, and whether a text may come after it
abbrev pub last_of : List Text → Option Text
last_of [] = None
last_of (text ∷ []) = Some text
last_of (text ∷ next ∷ rest) = last_of (next ∷ rest)

abbrev pub may_follow : Option Text → Text → Bool
may_follow None text = true
may_follow (Some last) text = is_below last text

-- the bytes begin with the entry of a text
pub record BeginsWithEntry (text : Text) (bytes : List ℕ) : Type 0 where
  pub lawful : IsText text
  pub within : 4 + length text ≤ length bytes
  pub bytes_are : bytes ≡ entry_of text ++ drop (4 + length text) bytes

-- they begin with that of some text
abbrev pub BeginsWithSome : List ℕ → Type 0
BeginsWithSome bytes = (text : Text) × BeginsWithEntry text bytes

-- they begin with none, and with none of a text that may come after the last one
abbrev pub LacksText : List ℕ → Type 0
LacksText bytes = (text : Text) (more : List ℕ) → IsText text → bytes ≡ entry_of text ++ more → ⊥

abbrev pub LacksNext : Option Text → List ℕ → Type 0
LacksNext last bytes = (text : Text) (more : List ℕ) → IsText text → may_follow last text ≡ true → bytes ≡ entry_of text ++ more → ⊥

-- so many entries were read, up to this place
pub record ReadSo (bytes : List ℕ) (number place : ℕ) (starts : List ℕ) (last : Option Text) : Type 0 where
  pub texts : List Text
  pub good : AreTexts texts
  pub many : length texts ≡ number
  pub place_is : place ≡ 16 + length (entries_of texts)
  pub within : place ≤ length bytes
  pub entries_are : drop 16 bytes ≡ entries_of texts ++ drop place bytes
  pub starts_are : starts ≡ starts_from 16 texts
  pub last_is : last ≡ last_of texts

-- how many starts memory is taken for: no more than the bytes have room for
abbrev pub room_for : List ℕ → ℕ → ℕ
room_for bytes count = min ((length bytes - 16) / 4) count
