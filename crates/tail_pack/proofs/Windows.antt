-- A window of 16 bytes as one number, and the value in it.
use Rattle.std.proofs.Common.{◌≡◌, ℕ, ◌+◌, ◌-◌, ◌*◌, ◌/◌, ◌%◌, ◌^◌, ◌<◌, ◌≤◌, bit_and, zero, suc, List, ◌++◌, length, get_or, take, drop, replicate, refl, sym, ap, ◌∙◌, subst, inl, inr, arith}
use Rattle.std.specs.Int.{bit_at, from_le_bytes, w128}
use Rattle.std.proofs.lemmas.Bool.{cases_lt}
use Rattle.std.proofs.lemmas.List.{take_rest, get_or-drop, get_or_past, get_or_append_left, get_or-append_right}
use Rattle.std.proofs.lemmas.Nat.{and_mask, mod_below, pow_pos}
use Rattle.std.proofs.lemmas.Nat.Bits.{ones_shr, same_from_bits_below}
use Rattle.definitions_blocks.specs.Words.{AreOctets}
use Rattle.definitions_blocks.proofs.BitLaws.{bit_at_shr, bit_at_low, total, total_bit, total_same}
use Rattle.definitions_columns.specs.Tails.{byte_bit, IsPackedTail}

-- the bytes of a window, put together
sixteen_parts : (f : ℕ → ℕ) → total 8 f 16 ≡ f 0 + f 1 * 256 + f 2 * 65536 + f 3 * 16777216 + f 4 * 4294967296 + f 5 * 1099511627776 + f 6 * 281474976710656 + f 7 * 72057594037927936 + f 8 * 18446744073709551616 + f 9 * 4722366482869645213696 + f 10 * 1208925819614629174706176 + f 11 * 309485009821345068724781056 + f 12 * 79228162514264337593543950336 + f 13 * 20282409603651670423947251286016 + f 14 * 5192296858534827628530496329220096 + f 15 * 1329227995784915872903807060280344576
unfolding total
sixteen_parts f = omega arith

-- a number whose bytes are those from a place on has the bits from there on
pub window_bit : (bytes window : List ℕ) (number place k : ℕ) → AreOctets bytes → ((i : ℕ) → i < 16 → get_or window i 0 ≡ get_or bytes (place + i) 0) → number ≡ from_le_bytes w128 window → k < 128
    → bit_at number k ≡ byte_bit bytes (8 * place + k)
window_bit bytes window number place k octets each is within =
    let own : ℕ → ℕ = λ i. get_or window i 0 in
    let from : ℕ → ℕ = λ i. get_or bytes (place + i) 0 in
    let parts : k / 8 * 8 + k % 8 ≡ k = omega arith in
    let byte : place + k / 8 ≡ (8 * place + k) / 8 = omega arith in
    let bit : k % 8 ≡ (8 * place + k) % 8 = omega arith in
    ap (λ n. bit_at n k) (is ∙ sym (sixteen_parts own) ∙ total_same 8 own from 16 each)
    ∙ ap (bit_at (total 8 from 16)) (sym parts)
    ∙ total_bit 8 from 16 (k / 8) (k % 8) (λ i inside. octets (place + i)) (omega arith) (omega arith)
    ∙ ap (λ j. bit_at (get_or bytes j 0) (k % 8)) byte ∙ ap (bit_at (get_or bytes ((8 * place + k) / 8) 0)) bit

-- Behind the end of bytes there are zeros.

zeros : (n i : ℕ) → get_or {A = ℕ} (replicate n 0) i 0 ≡ 0
zeros zero i = refl
zeros (suc n) zero = refl
zeros (suc n) (suc i) = zeros n i

pub padded_byte : (rest front : List ℕ) (n i : ℕ) → front ≡ rest → get_or (front ++ drop (length rest) (replicate n 0)) i 0 ≡ get_or rest i 0
padded_byte rest front n i same =
    let behind : List ℕ = drop (length rest) (replicate n 0) in
    ap (λ (l : List ℕ). get_or (l ++ behind) i 0) same
    ∙ elim (cases_lt i (length rest)) as (λ c. get_or (rest ++ behind) i 0 ≡ get_or rest i 0) [
      | inl inside ↦ get_or_append_left rest behind 0 i inside
      | inr past ↦
          get_or-append_right rest behind (length rest) i 0 refl past ∙ get_or-drop (length rest) (replicate n 0) (i - length rest) 0
          ∙ zeros n (length rest + (i - length rest)) ∙ sym (get_or_past rest i 0 past)
    ]

-- the bytes from a place on
pub byte_from : (bytes : List ℕ) (place i : ℕ) → get_or (take (length bytes - place) (drop place bytes)) i 0 ≡ get_or bytes (place + i) 0
byte_from bytes place i =
    ap (λ (l : List ℕ). get_or l i 0) (take_rest bytes place) ∙ get_or-drop place bytes i 0

-- the mask of a width
mask_of : (width mask : ℕ) → width ≤ 64 → mask ≡ (2 ^ 64 - 1) / 2 ^ (64 - width) → mask ≡ 2 ^ width - 1
mask_of width mask narrow is = let back : 64 - (64 - width) ≡ width = omega arith in is ∙ ones_shr 64 (64 - width) (omega arith) ∙ ap (λ n. 2 ^ n - 1) back

field : (width window offset mask : ℕ) → width ≤ 64 → mask ≡ (2 ^ 64 - 1) / 2 ^ (64 - width) → bit_and (window / 2 ^ offset) mask ≡ window / 2 ^ offset % 2 ^ width
field width window offset mask narrow is = ap (bit_and (window / 2 ^ offset)) (mask_of width mask narrow is) ∙ and_mask (window / 2 ^ offset) width

-- the value that begins at a bit of the window
pub field-lt : (width window offset mask : ℕ) → width ≤ 64 → mask ≡ (2 ^ 64 - 1) / 2 ^ (64 - width) → bit_and (window / 2 ^ offset) mask < 2 ^ width
field-lt width window offset mask narrow is = subst (λ n. n < 2 ^ width) (sym (field width window offset mask narrow is)) (mod_below (window / 2 ^ offset) (2 ^ width) (pow_pos width))

pub field-bit : (bytes : List ℕ) (width window start mask b : ℕ) → width ≤ 64 → mask ≡ (2 ^ 64 - 1) / 2 ^ (64 - width) → ((k : ℕ) → k < 128 → bit_at window k ≡ byte_bit bytes (8 * (start / 8) + k)) → b < width
    → bit_at (bit_and (window / 2 ^ (start % 8)) mask) b ≡ byte_bit bytes (start + b)
field-bit bytes width window start mask b narrow is bits within =
    let place : 8 * (start / 8) + (start % 8 + b) ≡ start + b = omega arith in
    ap (λ n. bit_at n b) (field width window (start % 8) mask narrow is)
    ∙ bit_at_low (window / 2 ^ (start % 8)) width b within ∙ bit_at_shr window (start % 8) b ∙ bits (start % 8 + b) (omega arith) ∙ ap (byte_bit bytes) place

-- a value of a tail is known from its bits
pub value_from_bits : (width value place : ℕ) (values bytes : List ℕ) → IsPackedTail width values bytes → place < length values → value < 2 ^ width
    → ((b : ℕ) → b < width → bit_at value b ≡ byte_bit bytes (place * width + b)) → value ≡ get_or values place 0
value_from_bits width value place values bytes tail within small bits =
    same_from_bits_below width value (get_or values place 0) small (tail.small place within) (λ b low. bits b low ∙ sym (tail.bits place b within low))
