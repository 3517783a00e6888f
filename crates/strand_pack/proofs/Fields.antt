-- The bits that a value has in two words, as the code takes them out.
use Rattle.std.proofs.Common.{◌≡◌, ℕ, ◌+◌, ◌-◌, ◌*◌, ◌/◌, ◌%◌, ◌^◌, ◌<◌, ◌≤◌, max, bit_and, bit_or, sym, ap, ◌∙◌, inl, inr, arith}
use Rattle.std.specs.Int.{bit_at}
use Rattle.std.proofs.lemmas.Bool.{cases_lt}
use Rattle.std.proofs.lemmas.Nat.{pow_pos, mod_below, and_mask, or_comm, or_shifted, shl_whole}
use Rattle.std.proofs.lemmas.Nat.Bits.{bit_at-zero, bit_at_or, bit_at_above, bit_at_cat_low, bit_at_cat_high, same_from_bits_below, ones_shr}
use Rattle.definitions_blocks.proofs.BitLaws.{bit_at_shr, bit_at_low}
use Rattle.strand_pack.specs.Words.{field}

pub field_lt : (low high offset width : ℕ) → field low high offset width < 2 ^ width
unfolding field
field_lt low high offset width = mod_below _ (2 ^ width) (pow_pos width)

pub field_bit : (low high offset width b : ℕ) → b < width → bit_at (field low high offset width) b ≡ bit_at (high * 2 ^ 64 + low) (offset + b)
unfolding field
field_bit low high offset width b within = bit_at_low ((high * 2 ^ 64 + low) / 2 ^ offset) width b within ∙ bit_at_shr (high * 2 ^ 64 + low) offset b

pub field_none : (low high offset : ℕ) → field low high offset 0 ≡ 0
unfolding field
field_none low high offset = omega arith

-- the low bits of a number are a field if its bits are those of the two words
taken : (n low high offset width : ℕ) → ((b : ℕ) → b < width → bit_at n b ≡ bit_at (high * 2 ^ 64 + low) (offset + b)) → bit_and n (2 ^ width - 1) ≡ field low high offset width
taken n low high offset width bits =
    and_mask n width
    ∙ same_from_bits_below width (n % 2 ^ width) (field low high offset width) (mod_below n (2 ^ width) (pow_pos width)) (field_lt low high offset width)
    (λ b within. bit_at_low n width b within ∙ bits b within ∙ sym (field_bit low high offset width b within))

-- a value that ends in the word that it begins in
pub field_from_one : (low high offset width : ℕ) → offset + width ≤ 64 → bit_and (low / 2 ^ offset) (2 ^ width - 1) ≡ field low high offset width
field_from_one low high offset width inside =
    taken (low / 2 ^ offset) low high offset width (λ b within. bit_at_shr low offset b ∙ sym (bit_at_cat_low high 64 low (offset + b) (omega arith)))

-- then any word may stand for the second
pub field_any : (low high other offset width : ℕ) → offset + width ≤ 64 → field low high offset width ≡ field low other offset width
field_any low high other offset width inside = sym (field_from_one low high offset width inside) ∙ field_from_one low other offset width inside

shifted_bit_low : (high up b : ℕ) → b < up → b < 64 → bit_at (high * 2 ^ up % 2 ^ 64) b ≡ 0
shifted_bit_low high up b below within =
    let none : high * 2 ^ up ≡ high * 2 ^ up + 0 = omega arith in
    bit_at_low (high * 2 ^ up) 64 b within ∙ ap (λ n. bit_at n b) none ∙ bit_at_cat_low high up 0 b below ∙ bit_at-zero b

shifted_bit_high : (high up b : ℕ) → up ≤ b → b < 64 → bit_at (high * 2 ^ up % 2 ^ 64) b ≡ bit_at high (b - up)
shifted_bit_high high up b above within =
    let none : high * 2 ^ up ≡ high * 2 ^ up + 0 = omega arith in
    bit_at_low (high * 2 ^ up) 64 b within ∙ ap (λ n. bit_at n b) none ∙ bit_at_cat_high high up 0 b (pow_pos up) above

both_bit : (low high offset b : ℕ) → low < 2 ^ 64 → 0 < offset → offset < 64 → b < 64
    → max (bit_at low (offset + b)) (bit_at (high * 2 ^ (64 - offset) % 2 ^ 64) b) ≡ bit_at (high * 2 ^ 64 + low) (offset + b)
both_bit low high offset b small some less within =
    elim (cases_lt b (64 - offset)) [
      | inl first ↦
          let none = shifted_bit_low high (64 - offset) b first within in
          let joined = bit_at_cat_low high 64 low (offset + b) (omega arith) in
          omega arith
      | inr second ↦
          let above = bit_at_above low 64 (offset + b) small (omega arith) in
          let shifted = shifted_bit_high high (64 - offset) b second within in
          let joined = bit_at_cat_high high 64 low (offset + b) small (omega arith) in
          let place : b - (64 - offset) ≡ (offset + b) - 64 = omega arith in
          let same = ap (λ n. bit_at high n) place in
          omega arith
    ]

-- a value that begins in one word and ends in the next
pub field_from_two : (low high offset width : ℕ) → low < 2 ^ 64 → 0 < offset → offset < 64 → width ≤ 64
    → bit_and (bit_or (low / 2 ^ offset) (high * 2 ^ (64 - offset) % 2 ^ 64)) (2 ^ width - 1) ≡ field low high offset width
field_from_two low high offset width small some less narrow =
    taken _ low high offset width (λ b within.
    bit_at_or (low / 2 ^ offset) (high * 2 ^ (64 - offset) % 2 ^ 64) b
    ∙ ap (λ n. max n (bit_at (high * 2 ^ (64 - offset) % 2 ^ 64) b)) (bit_at_shr low offset b)
    ∙ both_bit low high offset b small some less (omega arith))

-- the two words in one number of 128 bits
pub field_wide : (low high offset width : ℕ) → low < 2 ^ 64 → high < 2 ^ 64
    → bit_and (bit_or low (high * 2 ^ 64 % 2 ^ 128) / 2 ^ offset) (2 ^ width - 1) ≡ field low high offset width
unfolding field
field_wide low high offset width small other =
    and_mask _ width
    ∙ ap (λ n. bit_or low n / 2 ^ offset % 2 ^ width) (shl_whole high 64 64 128 other (omega arith))
    ∙ ap (λ n. n / 2 ^ offset % 2 ^ width) (or_comm low (high * 2 ^ 64) ∙ or_shifted high 64 low small)

-- the mask of a width
pub mask_of : (width mask : ℕ) → width ≤ 64 → mask ≡ (2 ^ 64 - 1) / 2 ^ (64 - width) → mask ≡ 2 ^ width - 1
mask_of width mask narrow is = let back : 64 - (64 - width) ≡ width = omega arith in is ∙ ones_shr 64 (64 - width) (omega arith) ∙ ap (λ n. 2 ^ n - 1) back
