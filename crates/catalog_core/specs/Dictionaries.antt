-- Dictionaries: the distinct texts of a column in the order of their bytes, and their files.
use Rattle.std.specs.Prelude.{◌≡◌, ◌≢◌, ℕ, ◌<◌, ◌≤◌, ◌↔◌, Bool, true, false, ◌&&◌, not, List, [], ◌∷◌, ◌++◌, filter, flat_map, length, codes, Option, Some, slice_get}
use Rattle.std.specs.Int.{to_le_bytes, w32}
use Rattle.std.specs.List.{AllByRecursion, Contains, position}
use Rattle.std.specs.Str.{bytes_eq}
use Rattle.definitions_blocks.specs.Columns.{max_rows}
use Rattle.definitions_blocks.specs.Words.{word_bytes}
use Rattle.catalog_core.specs.Texts.{Text, IsText, is_below}
use Rattle.catalog_core.specs.declared.errors.DictError.{DictError}
use Rattle.catalog_core.specs.declared.errors.DictError.TheVariants as error

-- whether each text comes before the next one
abbrev pub rises : List Text → Bool
rises [] = true
rises (first ∷ []) = true
rises (first ∷ next ∷ rest) = is_below first next && rises (next ∷ rest)

-- the texts of a dictionary: not too many, each lawful, and strictly rising
pub record AreTexts (texts : List Text) : Type 0 where
  pub few : length texts ≤ max_rows
  pub lawful : AllByRecursion IsText texts
  pub rising : rises texts ≡ true

-- the length of a text in a file: four bytes, the little end first
unfoldable pub length_bytes : Text → List ℕ
length_bytes text = to_le_bytes w32 (length text)

-- a text in a file: its length, and its bytes
abbrev pub entry_of : Text → List ℕ
entry_of text = length_bytes text ++ text

abbrev pub entries_of : List Text → List ℕ
entries_of texts = flat_map entry_of texts

-- the first 16 bytes of a dictionary file: `MDIC`, the version, three zeros, and the count
abbrev pub dictionary_head : ℕ → List ℕ
dictionary_head count = codes "MDIC" ++ (1 ∷ 0 ∷ 0 ∷ 0 ∷ []) ++ word_bytes count

-- the one file of a dictionary
abbrev pub dictionary_file : List Text → List ℕ
dictionary_file texts = dictionary_head (length texts) ++ entries_of texts

-- the bytes are the file of the dictionary of these texts
pub record IsDictionaryFile (texts : List Text) (bytes : List ℕ) : Type 0 where
  pub lawful : AreTexts texts
  pub bytes_are : bytes ≡ dictionary_file texts

-- bytes that begin with a head and some texts that a dictionary can begin with
pub record GoodStart (bytes : List ℕ) : Type 0 where
  pub count : ℕ
  pub few : count ≤ max_rows
  pub texts : List Text
  pub good : AreTexts texts
  pub rest : List ℕ
  pub bytes_are : bytes ≡ dictionary_head count ++ (entries_of texts ++ rest)

-- no text that may come next begins the rest: it is cut, too long, not UTF-8, or does not come after the one before
abbrev pub LacksEntry : List Text → List ℕ → Type 0
LacksEntry texts rest = (text : Text) (more : List ℕ) → AreTexts (texts ++ text ∷ []) → rest ≡ entry_of text ++ more → ⊥

-- The first fault of the bytes is this one: there is no head; this entry, which the head says to be there, is none; or all entries
-- are good, and bytes follow.
abbrev pub HasDictionaryFault : List ℕ → DictError → Type 0
HasDictionaryFault bytes error.BadHeader = GoodStart bytes → ⊥
HasDictionaryFault bytes (error.BadEntry entry) =
    (opening : GoodStart bytes) × (length opening.texts ≡ entry) × (entry < opening.count) × LacksEntry opening.texts opening.rest
HasDictionaryFault bytes error.Trailing = (opening : GoodStart bytes) × (length opening.texts ≡ opening.count) × (opening.rest ≢ [])
HasDictionaryFault bytes error.Memory = ⊥

-- a text's code: its place
abbrev pub code_of : Text → List Text → Option ℕ
code_of text texts = position (bytes_eq text) texts

-- how many texts come before the text, and how many do or are equal to it
abbrev pub rank_below : Text → List Text → ℕ
rank_below text texts = length (filter (λ other. is_below other text) texts)

abbrev pub rank_through : Text → List Text → ℕ
rank_through text texts = length (filter (λ other. not (is_below text other)) texts)

-- the dictionary of a column: the distinct ones of its texts
pub record AreDistinctTextsOf (texts dictionary : List Text) : Type 0 where
  pub lawful : AreTexts dictionary
  pub same : (text : Text) → Contains dictionary text ↔ Contains texts text

-- Laws.

-- bytes are the file of one dictionary at most
abbrev pub OneDictionary : Type 0
OneDictionary = (texts others : List Text) (bytes : List ℕ) → IsDictionaryFile texts bytes → IsDictionaryFile others bytes → texts ≡ others

-- bytes have one first fault at most
abbrev pub OneDictionaryFault : Type 0
OneDictionaryFault = (bytes : List ℕ) (fault other : DictError) → HasDictionaryFault bytes fault → HasDictionaryFault bytes other → fault ≡ other

-- a dictionary's file has none
abbrev pub NoDictionaryFault : Type 0
NoDictionaryFault = (texts : List Text) (bytes : List ℕ) (fault : DictError) → IsDictionaryFile texts bytes → HasDictionaryFault bytes fault → ⊥

-- texts have one dictionary at most
abbrev pub OneDistinct : Type 0
OneDistinct = (texts dictionary other : List Text) → AreDistinctTextsOf texts dictionary → AreDistinctTextsOf texts other → dictionary ≡ other

-- the text at a place has that place as its code, and no other text has it
abbrev pub CodeIsPlace : Type 0
CodeIsPlace = (texts : List Text) (text : Text) (code : ℕ) → AreTexts texts → (slice_get texts code ≡ Some text) ↔ (code_of text texts ≡ Some code)

-- the codes below a rank are those of the texts that it counts
abbrev pub RanksPartCodes : Type 0
RanksPartCodes = (texts : List Text) (text other : Text) (code : ℕ) → AreTexts texts → code_of other texts ≡ Some code
    → ((code < rank_below text texts) ↔ (is_below other text ≡ true)) × ((code < rank_through text texts) ↔ (is_below text other ≡ false))
