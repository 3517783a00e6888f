-- Tails at worked values, whose bytes were computed by hand.
use Rattle.std.proofs.Common.{ℕ, [], ◌∷◌, refl, arith}
use Rattle.definitions_blocks.specs.Words.{word_bytes}
use Rattle.definitions_blocks.proofs.BitLaws.{total}
use Rattle.definitions_blocks.proofs.WordLaws.{AreOctets-cons}
use Rattle.definitions_blocks.proofs.WidthLaws.{AreBelow-from_fits}
use Rattle.definitions_columns.specs.Tails.{IsPackedTail}
use Rattle.definitions_columns.proofs.TailLaws.{byte_bit-past, IsPackedTail-words}
use Rattle.definitions_columns.proofs.TailTotals.{number_of, IsPackedTail-from_number}

-- 35 is in byte 0 and 80 and 10 go over the ends of bytes 0 and 1: 0x23, 0xa8, 0x02
pub three_values_at_seven_bits : IsPackedTail 7 (35 ∷ 80 ∷ 10 ∷ []) (35 ∷ 168 ∷ 2 ∷ [])
unfolding total number_of
three_values_at_seven_bits =
    IsPackedTail-from_number 7 (35 ∷ 80 ∷ 10 ∷ []) (35 ∷ 168 ∷ 2 ∷ []) (AreBelow-from_fits 7 (35 ∷ 80 ∷ 10 ∷ []) refl)
    (AreOctets-cons 35 (168 ∷ 2 ∷ []) (omega arith) (AreOctets-cons 168 (2 ∷ []) (omega arith) (AreOctets-cons 2 [] (omega arith) (λ i. omega arith)))) refl refl

-- three values take 21 bits, so the three highest of byte 2 are unused: 0xa2 in place of 0x02 sets one
unused_bit_is_refused : IsPackedTail 7 (35 ∷ 80 ∷ 10 ∷ []) (35 ∷ 168 ∷ 162 ∷ []) → ⊥
unused_bit_is_refused tail = let none = tail.unused 21 (omega arith) in cc (none)

-- 0xc9, 0x57, 0x3e: the two highest bits are unused
two_values_at_eleven_bits : IsPackedTail 11 (1993 ∷ 1994 ∷ []) (201 ∷ 87 ∷ 62 ∷ [])
unfolding total number_of
two_values_at_eleven_bits =
    IsPackedTail-from_number 11 (1993 ∷ 1994 ∷ []) (201 ∷ 87 ∷ 62 ∷ []) (AreBelow-from_fits 11 (1993 ∷ 1994 ∷ []) refl)
    (AreOctets-cons 201 (87 ∷ 62 ∷ []) (omega arith) (AreOctets-cons 87 (62 ∷ []) (omega arith) (AreOctets-cons 62 [] (omega arith) (λ i. omega arith)))) refl refl

no_values_are_no_bytes : (width : ℕ) → IsPackedTail width [] []
no_values_are_no_bytes width = record {
  small = λ i within. absurd (omega arith);
  octets = λ i. omega arith;
  size = omega arith;
  bits = λ i b within low. absurd (omega arith);
  unused = λ k past. byte_bit-past [] k (omega arith);
}

three_zeros_at_no_bits_are_no_bytes : IsPackedTail 0 (0 ∷ 0 ∷ 0 ∷ []) []
unfolding total number_of
three_zeros_at_no_bits_are_no_bytes = IsPackedTail-from_number 0 (0 ∷ 0 ∷ 0 ∷ []) [] (AreBelow-from_fits 0 (0 ∷ 0 ∷ 0 ∷ []) refl) (λ i. omega arith) refl refl

-- 258 and 1 at 64 bits are their words
two_values_at_64_bits : IsPackedTail 64 (258 ∷ 1 ∷ []) (2 ∷ 1 ∷ 0 ∷ 0 ∷ 0 ∷ 0 ∷ 0 ∷ 0 ∷ 1 ∷ 0 ∷ 0 ∷ 0 ∷ 0 ∷ 0 ∷ 0 ∷ 0 ∷ [])
unfolding word_bytes
two_values_at_64_bits = IsPackedTail-words (258 ∷ 1 ∷ []) (omega arith, (omega arith, tt))
