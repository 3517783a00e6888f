-- Words of a packed block, as the code reads and writes them.
use Rattle.std.specs.Prelude.{◌≡◌, ℕ, ◌+◌, ◌*◌, ◌/◌, ◌%◌, ◌^◌, ◌<◌, ◌≤◌, List, slice_index}
use Rattle.std.specs.Int.{bit_at}
use Rattle.definitions_blocks.specs.Words.{word_of}
use Rattle.definitions_blocks.specs.Packed.{strand_bit}

-- as many bits as the width says of two words in a row, from the offset on
unfoldable pub field : ℕ → ℕ → ℕ → ℕ → ℕ
field low high offset width = (high * 2 ^ 64 + low) / 2 ^ offset % 2 ^ width

-- the value in a row of a strand, read from the word that it begins in and the strand's next
unfoldable pub value_in : List ℕ → ℕ → ℕ → ℕ → ℕ
value_in bytes width row strand =
    let start = row * width in
    field (word_of bytes (start / 64 * 16 + strand)) (word_of bytes ((start / 64 + 1) * 16 + strand)) (start % 64) width

-- the strands from the first on, up to the last and without it, encode their values
pub record AreEncoded (width first last : ℕ) (values bytes : List ℕ) : Type 0 where
  pub bits : (strand row b : ℕ) → first ≤ strand → strand < last → row < 64 → b < width → bit_at (slice_index values (row * 16 + strand)) b ≡ strand_bit bytes strand (row * width + b)
