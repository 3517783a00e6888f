-- The number that the first bytes of a text make, by which a reader compares short texts.
use Rattle.std.specs.Prelude.{◌≡◌, ℕ, zero, suc, ◌+◌, ◌*◌, ◌^◌, ◌≤◌, List, [], ◌∷◌, length, drop, Some}
use Rattle.catalog_core.specs.Texts.{Text}
use Rattle.catalog_core.specs.DictionaryReading.{BeginsWithEntry, ReadSo}

-- the number of the first bytes of a text, as many as are said, the first one the highest; zeros stand for those that it lacks
abbrev pub number_of : ℕ → Text → ℕ
number_of zero text = 0
number_of (suc more) [] = 0
number_of (suc more) (first ∷ rest) = first * 256 ^ more + number_of more rest

-- the bytes begin with the entry of a text that has this length and this number
pub record BeginsWithShort (bytes : List ℕ) (len number : ℕ) : Type 0 where
  pub text : Text
  pub begins : BeginsWithEntry text bytes
  pub len_is : len ≡ length text
  pub number_is : number ≡ number_of 16 text

-- so many entries were read, and the last of them starts and ends here
pub record ReadUpTo (bytes : List ℕ) (number start end : ℕ) (starts : List ℕ) : Type 0 where
  pub text : Text
  pub so : ReadSo bytes number end starts (Some text)
  pub within : start ≤ length bytes
  pub begins : BeginsWithEntry text (drop start bytes)
