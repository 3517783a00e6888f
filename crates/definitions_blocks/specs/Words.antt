-- 64-bit numbers, and their bytes in files.
use Rattle.std.specs.Prelude.{ℕ, ◌*◌, ◌^◌, ◌<◌, List, take, drop, flat_map, slice_index}
use Rattle.std.specs.Int.{from_le_bytes, to_le_bytes, w64}

-- a number below 2^64
abbrev pub IsWord : ℕ → Type 0
IsWord value = value < 2 ^ 64

-- a list of bytes: each number is below 256
abbrev pub AreOctets : List ℕ → Type 0
AreOctets bytes = (i : ℕ) → slice_index bytes i < 256

-- a number in a file: eight bytes, the little end first
unfoldable pub word_bytes : ℕ → List ℕ
word_bytes value = to_le_bytes w64 value

-- numbers in a file, one after the other
abbrev pub words_of : List ℕ → List ℕ
words_of values = flat_map word_bytes values

-- word j of bytes: eight of them, the little end first
unfoldable pub word_of : List ℕ → ℕ → ℕ
word_of bytes j = from_le_bytes w64 (take 8 (drop (8 * j) bytes))
