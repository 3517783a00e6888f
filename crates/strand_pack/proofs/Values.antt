-- A value that is read from its words has the bits that the block's definition says.
use Rattle.std.proofs.Common.{◌≡◌, ℕ, ◌+◌, ◌-◌, ◌*◌, ◌/◌, ◌%◌, ◌^◌, ◌<◌, ◌≤◌, List, length, get_or, bit_and, bit_or, ◌⊎◌, sym, ap, ◌∙◌, subst, inl, inr, arith}
use Rattle.std.specs.Int.{bit_at}
use Rattle.std.proofs.Math.Nat.{mul-le-mul_right}
use Rattle.std.proofs.lemmas.Bool.{cases_lt}
use Rattle.std.proofs.lemmas.Nat.Bits.{bit_at_cat_low, bit_at_cat_high, same_from_bits_below}
use Rattle.definitions_blocks.specs.Packed.{word_bit, strand_bit, IsPacked}
use Rattle.definitions_blocks.specs.Words.{word_of}
use Rattle.strand_pack.specs.Words.{field, value_in}
use Rattle.definitions_blocks.proofs.WordListLaws.{word_of-lt}
use Rattle.strand_pack.proofs.WordBits.{word_of-bit}
use Rattle.strand_pack.proofs.Fields.{field_lt, field_bit, field_none, field_any, field_wide, field_from_one, field_from_two}

pub value_in-lt : (bytes : List ℕ) (width row strand : ℕ) → value_in bytes width row strand < 2 ^ width
unfolding value_in
value_in-lt bytes width row strand = field_lt _ _ _ width

pub value_in-none : (bytes : List ℕ) (row strand : ℕ) → value_in bytes 0 row strand ≡ 0
unfolding value_in
value_in-none bytes row strand = field_none _ _ _

-- bit b past a place in the strand, in that place's word or in the next
bit_from : (bytes : List ℕ) (start strand b : ℕ) → ((k : ℕ) → get_or bytes k 0 < 2 ^ 8) → b < 64
    → bit_at (word_of bytes ((start / 64 + 1) * 16 + strand) * 2 ^ 64 + word_of bytes (start / 64 * 16 + strand)) (start % 64 + b) ≡ strand_bit bytes strand (start + b)
bit_from bytes start strand b octets within =
    let low = word_of bytes (start / 64 * 16 + strand) in
    let high = word_of bytes ((start / 64 + 1) * 16 + strand) in
    elim (cases_lt (start % 64 + b) 64) [
      | inl here ↦
          let word : start / 64 ≡ (start + b) / 64 = omega arith in
          let bit : start % 64 + b ≡ (start + b) % 64 = omega arith in
          bit_at_cat_low high 64 low (start % 64 + b) here ∙ word_of-bit bytes (start / 64 * 16 + strand) (start % 64 + b) octets here
          ∙ ap (λ m. word_bit bytes (start / 64 * 16 + strand) m) bit ∙ ap (λ g. word_bit bytes (g * 16 + strand) ((start + b) % 64)) word
      | inr past ↦
          let word : start / 64 + 1 ≡ (start + b) / 64 = omega arith in
          let bit : (start % 64 + b) - 64 ≡ (start + b) % 64 = omega arith in
          bit_at_cat_high high 64 low (start % 64 + b) (word_of-lt bytes (start / 64 * 16 + strand) octets) past
          ∙ word_of-bit bytes ((start / 64 + 1) * 16 + strand) ((start % 64 + b) - 64) octets (omega arith)
          ∙ ap (λ m. word_bit bytes ((start / 64 + 1) * 16 + strand) m) bit ∙ ap (λ g. word_bit bytes (g * 16 + strand) ((start + b) % 64)) word
    ]

pub value_in-bit : (bytes : List ℕ) (width row strand b : ℕ) → ((k : ℕ) → get_or bytes k 0 < 2 ^ 8) → width ≤ 64 → b < width
    → bit_at (value_in bytes width row strand) b ≡ strand_bit bytes strand (row * width + b)
unfolding value_in
value_in-bit bytes width row strand b octets narrow within =
    field_bit (word_of bytes (row * width / 64 * 16 + strand)) (word_of bytes ((row * width / 64 + 1) * 16 + strand)) (row * width % 64) width b within
    ∙ bit_from bytes (row * width) strand b octets (omega arith)

-- values that are read from their words are the block that the bytes are
pub IsPacked-from_values : (width : ℕ) (values bytes : List ℕ) → width ≤ 64 → length values ≡ 1024 → length bytes ≡ 128 * width → ((k : ℕ) → get_or bytes k 0 < 2 ^ 8)
    → ((i : ℕ) → i < 1024 → get_or values i 0 ≡ value_in bytes width (i / 16) (i % 16)) → IsPacked width values bytes
IsPacked-from_values width values bytes narrow count size octets read = record {
  narrow = narrow;
  count = count;
  size = size;
  octets = octets;
  small = λ i within. subst (λ n. n < 2 ^ width) (sym (read i (omega (arith, count)))) (value_in-lt bytes width (i / 16) (i % 16));
  bits = λ i b within low. ap (λ n. bit_at n b) (read i within) ∙ value_in-bit bytes width (i / 16) (i % 16) b octets narrow low;
}

-- each value of a packed block can be read from its words
pub packed_value : (width : ℕ) (values bytes : List ℕ) → IsPacked width values bytes → (i : ℕ) → i < 1024 → get_or values i 0 ≡ value_in bytes width (i / 16) (i % 16)
packed_value width values bytes p i within =
    same_from_bits_below width (get_or values i 0) (value_in bytes width (i / 16) (i % 16)) (p.small i (omega (arith, p.count))) (value_in-lt bytes width (i / 16) (i % 16))
    (λ b low. p.bits i b within low ∙ sym (value_in-bit bytes width (i / 16) (i % 16) b p.octets p.narrow low))

-- the bits of one value, taken out of two words side by side
pub value_picked : (width place word next low high mask : ℕ) (values bytes : List ℕ) → IsPacked width values bytes → place < 1024 → word ≡ place / 16 * width / 64 * 16 + place % 16
    → (next ≡ word + 16) ⊎ ((next ≡ word) × (16 * width ≤ word + 16)) → low ≡ word_of bytes word → high ≡ word_of bytes next → mask ≡ 2 ^ width - 1
    → bit_and (bit_or low (high * 2 ^ 64 % 2 ^ 128) / 2 ^ (place / 16 * width % 64)) mask ≡ get_or values place 0
unfolding value_in
value_picked width place word next low high mask values bytes p within at second first other is =
    let row = place / 16 in
    let start = row * width in
    let strand = place % 16 in
    let after : ((start / 64 + 1) * 16 + strand) ≡ word + 16 = omega arith in
    let lowest : low ≡ word_of bytes (start / 64 * 16 + strand) = first ∙ ap (word_of bytes) at in
    let small : low < 2 ^ 64 = subst (λ n. n < 2 ^ 64) (sym first) (word_of-lt bytes word p.octets) in
    let fits : high < 2 ^ 64 = subst (λ n. n < 2 ^ 64) (sym other) (word_of-lt bytes next p.octets) in
    let past = word_of bytes ((start / 64 + 1) * 16 + strand) in
    let joined : field low high (start % 64) width ≡ field low past (start % 64) width =
    elim second [
      | inl follows ↦ ap (λ h. field low h (start % 64) width) (other ∙ ap (word_of bytes) (follows ∙ sym after))
      | inr last ↦
          let rows : (row + 1) * width ≤ 64 * width = mul-le-mul_right width (omega arith) in
          field_any low high past (start % 64) width (omega (arith, last.1))
    ] in
    ap (λ m. bit_and (bit_or low (high * 2 ^ 64 % 2 ^ 128) / 2 ^ (start % 64)) m) is
    ∙ field_wide low high (start % 64) width small fits ∙ joined ∙ ap (λ n. field n past (start % 64) width) lowest ∙ sym (packed_value width values bytes p place within)

-- the same from the words of a row's first line, or of its two
pub value_from_one : (bytes : List ℕ) (width row strand : ℕ) → row * width % 64 + width ≤ 64
    → bit_and (word_of bytes (row * width / 64 * 16 + strand) / 2 ^ (row * width % 64)) (2 ^ width - 1) ≡ value_in bytes width row strand
unfolding value_in
value_from_one bytes width row strand inside = field_from_one _ _ (row * width % 64) width inside

pub value_from_two : (bytes : List ℕ) (width row strand : ℕ) → ((k : ℕ) → get_or bytes k 0 < 2 ^ 8) → width ≤ 64 → 0 < row * width % 64
    → bit_and (bit_or (word_of bytes (row * width / 64 * 16 + strand) / 2 ^ (row * width % 64)) (word_of bytes (row * width / 64 * 16 + 16 + strand) * 2 ^ (64 - row * width % 64) % 2 ^ 64)) (2 ^ width - 1)
    ≡ value_in bytes width row strand
unfolding value_in
value_from_two bytes width row strand octets narrow some =
    let low = word_of bytes (row * width / 64 * 16 + strand) in
    let offset = row * width % 64 in
    let next : row * width / 64 * 16 + 16 + strand ≡ (row * width / 64 + 1) * 16 + strand = omega arith in
    ap (λ j. bit_and (bit_or (low / 2 ^ offset) (word_of bytes j * 2 ^ (64 - offset) % 2 ^ 64)) (2 ^ width - 1)) next
    ∙ field_from_two low (word_of bytes ((row * width / 64 + 1) * 16 + strand)) offset width (word_of-lt bytes _ octets) some (omega arith) narrow
