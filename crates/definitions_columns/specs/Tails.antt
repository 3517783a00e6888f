-- The values after the last whole block, packed one after the other.
use Rattle.std.specs.Prelude.{◌≡◌, ℕ, ◌+◌, ◌*◌, ◌/◌, ◌%◌, ◌<◌, ◌≤◌, List, length, slice_index}
use Rattle.std.specs.Int.{bit_at}
use Rattle.std.specs.List.{AllByRecursion}
use Rattle.definitions_blocks.specs.Words.{IsWord, AreOctets, words_of}
use Rattle.definitions_blocks.specs.Packed.{AreBelow}

-- so many bytes hold so many values of a width
abbrev pub packed_len : ℕ → ℕ → ℕ
packed_len count width = (count * width + 7) / 8

-- bit k of bytes: bit k mod 8 of byte k div 8
abbrev pub byte_bit : List ℕ → ℕ → ℕ
byte_bit bytes k = bit_at (slice_index bytes (k / 8)) (k % 8)

-- The bytes are the values, packed at the width: bit b of value i is bit i * width + b, and each bit behind the last value is 0.
pub record IsPackedTail (width : ℕ) (values bytes : List ℕ) : Type 0 where
  pub small : AreBelow width values
  pub octets : AreOctets bytes
  pub size : length bytes ≡ packed_len (length values) width
  pub bits : (i b : ℕ) → i < length values → b < width → bit_at (slice_index values i) b ≡ byte_bit bytes (i * width + b)
  pub unused : (k : ℕ) → length values * width ≤ k → byte_bit bytes k ≡ 0

-- values below 2^width are packed in some way
abbrev pub HasTail : Type 0
HasTail = (width : ℕ) (values : List ℕ) → AreBelow width values → (bytes : List ℕ) × IsPackedTail width values bytes

-- and in one way only
abbrev pub OneTail : Type 0
OneTail = (width : ℕ) (values bytes others : List ℕ) → IsPackedTail width values bytes → IsPackedTail width values others → bytes ≡ others

-- bytes are at most one list of so many values at a width
abbrev pub OneUnpacked : Type 0
OneUnpacked = (width : ℕ) (values others bytes : List ℕ) → length values ≡ length others → IsPackedTail width values bytes → IsPackedTail width others bytes → values ≡ others

-- at 64 bits the values are packed as their words
abbrev pub WordTail : Type 0
WordTail = (values : List ℕ) → AllByRecursion IsWord values → IsPackedTail 64 values (words_of values)
