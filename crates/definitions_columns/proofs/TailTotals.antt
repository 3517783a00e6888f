-- A tail as one number: its bytes and its values are parts of the same one.
use Rattle.std.proofs.Common.{◌≡◌, ℕ, ◌+◌, ◌*◌, ◌/◌, ◌%◌, ◌^◌, ◌<◌, List, length, get_or, sym, ap, ◌∙◌, inl, inr, arith}
use Rattle.std.specs.Int.{bit_at}
use Rattle.std.proofs.lemmas.Bool.{cases_lt}
use Rattle.std.proofs.lemmas.Nat.{mul-add-lt}
use Rattle.std.proofs.lemmas.Nat.Bits.{bit_at_above}
use Rattle.definitions_blocks.specs.Words.{AreOctets}
use Rattle.definitions_blocks.specs.Packed.{AreBelow}
use Rattle.definitions_blocks.proofs.BitLaws.{total, total_lt, total_bit}
use Rattle.definitions_columns.specs.Tails.{packed_len, byte_bit, IsPackedTail}
use Rattle.definitions_columns.proofs.TailLaws.{byte_bit-past}

-- the number that a list's values make, each with so many bits, the first one lowest
unfoldable pub number_of : ℕ → List ℕ → ℕ
number_of width values = total width (λ k. get_or values k 0) (length values)

pub number_of-bit : (width : ℕ) (values : List ℕ) (i b : ℕ) → AreBelow width values → i < length values → b < width → bit_at (number_of width values) (i * width + b) ≡ bit_at (get_or values i 0) b
unfolding number_of
number_of-bit width values i b small within low = total_bit width (λ k. get_or values k 0) (length values) i b small within low

pub number_of-lt : (width : ℕ) (values : List ℕ) → AreBelow width values → number_of width values < 2 ^ (length values * width)
unfolding number_of
number_of-lt width values small = total_lt width (λ k. get_or values k 0) (length values) small

pub byte_bit-number_of : (bytes : List ℕ) (k : ℕ) → AreOctets bytes → k < 8 * length bytes → byte_bit bytes k ≡ bit_at (number_of 8 bytes) k
byte_bit-number_of bytes k octets within =
    let place : k / 8 * 8 + k % 8 ≡ k = omega arith in
    sym (number_of-bit 8 bytes (k / 8) (k % 8) (λ i inside. octets i) (omega arith) (omega arith)) ∙ ap (bit_at (number_of 8 bytes)) place

-- bytes that make the same number as the values are their tail
pub IsPackedTail-from_number : (width : ℕ) (values bytes : List ℕ) → AreBelow width values → AreOctets bytes → length bytes ≡ packed_len (length values) width → number_of 8 bytes ≡ number_of width values → IsPackedTail width values bytes
IsPackedTail-from_number width values bytes small octets size same = record {
  small = small;
  octets = octets;
  size = size;
  bits = λ i b within low.
      let inside : i * width + b < width * length values = mul-add-lt i width b (length values) within low in
      sym (number_of-bit width values i b small within low) ∙ sym (ap (λ n. bit_at n (i * width + b)) same) ∙ sym (byte_bit-number_of bytes (i * width + b) octets (omega arith));
  unused = λ k past.
      elim (cases_lt k (8 * length bytes)) [
        | inl inside ↦ byte_bit-number_of bytes k octets inside ∙ ap (λ n. bit_at n k) same ∙ bit_at_above (number_of width values) (length values * width) k (number_of-lt width values small) past
        | inr beyond ↦ byte_bit-past bytes k beyond
      ];
}
