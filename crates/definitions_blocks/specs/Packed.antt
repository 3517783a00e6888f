-- Bit packing: a block in 16 strands, each value with as many bits as the width says.
use Rattle.std.specs.Prelude.{◌≡◌, ℕ, ◌+◌, ◌*◌, ◌/◌, ◌%◌, ◌^◌, ◌<◌, ◌≤◌, List, length, slice_index}
use Rattle.std.specs.Int.{bit_at}
use Rattle.definitions_blocks.specs.Words.{AreOctets}
use Rattle.definitions_blocks.specs.Blocks.{block_values, strands}

-- bit m of word j: bit m mod 8 of byte 8j + m div 8
abbrev pub word_bit : List ℕ → ℕ → ℕ → ℕ
word_bit bytes j m = bit_at (slice_index bytes (8 * j + m / 8)) (m % 8)

-- bit k of strand s: bit k mod 64 of word (k div 64) * 16 + s
abbrev pub strand_bit : List ℕ → ℕ → ℕ → ℕ
strand_bit bytes s k = word_bit bytes (k / 64 * strands + s) (k % 64)

-- the values are below 2^width
abbrev pub AreBelow : ℕ → List ℕ → Type 0
AreBelow width values = (i : ℕ) → i < length values → slice_index values i < 2 ^ width

-- The bytes are the block, packed at the width. Value i stands in strand i mod 16, row i div 16, and bit b of row r is bit
-- r * width + b of its strand.
pub record IsPacked (width : ℕ) (values bytes : List ℕ) : Type 0 where
  pub narrow : width ≤ 64
  pub count : length values ≡ block_values
  pub size : length bytes ≡ 128 * width
  pub octets : AreOctets bytes
  pub small : AreBelow width values
  pub bits : (i b : ℕ) → i < block_values → b < width → bit_at (slice_index values i) b ≡ strand_bit bytes (i % strands) (i / strands * width + b)

-- the least width that holds the values
pub record IsWidth (width : ℕ) (values : List ℕ) : Type 0 where
  pub holds : AreBelow width values
  pub least : (other : ℕ) → AreBelow other values → width ≤ other
