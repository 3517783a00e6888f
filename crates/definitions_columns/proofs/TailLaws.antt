-- Bytes are one tail of so many values, a tail is packed in one way, and all small values and all bytes of a size are one.
use Rattle.std.proofs.Common.{◌≡◌, ℕ, zero, suc, ◌+◌, ◌*◌, ◌/◌, ◌%◌, ◌^◌, ◌<◌, ◌≤◌, List, length, get_or, sym, ap, ◌∙◌, subst, inl, inr, arith}
use Rattle.std.specs.Prelude.{slice_index}
use Rattle.std.specs.Int.{bit_at}
use Rattle.std.proofs.lemmas.Bool.{cases_lt}
use Rattle.std.proofs.lemmas.List.{ext_get_or, get_or_past}
use Rattle.std.proofs.lemmas.Nat.{mul-add-lt, div-mul-add, mod-mul-add, div_below, mod_below, div-add-mod', le-div}
use Rattle.std.proofs.lemmas.Nat.Bits.{bit_at-lt, bit_at-zero, same_from_bits_below}
use Rattle.std.specs.List.{AllByRecursion}
use Rattle.definitions_blocks.specs.Words.{IsWord, AreOctets, words_of}
use Rattle.definitions_blocks.specs.Packed.{AreBelow}
use Rattle.definitions_blocks.proofs.BitLaws.{bit_at_shr, bit_at_low, from_bits, from_bits_lt, bit_at-from_bits, table, length-table, get_or-table}
use Rattle.definitions_blocks.proofs.WordLaws.{length-words_of, words_of-octets}
use Rattle.definitions_blocks.proofs.WidthLaws.{AreBelow-words}
use Rattle.definitions_columns.specs.Tails.{packed_len, byte_bit, IsPackedTail}
use Rattle.definitions_columns.proofs.DigitLaws.{get_or-words_of}

-- bytes of one width are those of one tail, if the numbers of values are the same
pub IsPackedTail-values : (width : ℕ) (values others bytes : List ℕ) → length values ≡ length others → IsPackedTail width values bytes → IsPackedTail width others bytes → values ≡ others
IsPackedTail-values width values others bytes as_many p q =
    ext_get_or 0 values others as_many (λ i within.
    let inside : i < length others = omega arith in
    same_from_bits_below width (get_or values i 0) (get_or others i 0) (p.small i within) (q.small i inside)
    (λ b low. p.bits i b within low ∙ sym (q.bits i b inside low)))

-- where a bit of the values stands: bit k mod width of value k div width
pub some_bits : (count width k : ℕ) → k < count * width → 0 < width
some_bits count zero k within = absurd (omega arith)
some_bits count (suc width) k within = omega arith

record IsPlaced (count width k i b : ℕ) : Type 0 where
  value : i < count
  bit : b < width
  place : i * width + b ≡ k

placed : (count width k : ℕ) → k < count * width → IsPlaced count width k (k / width) (k % width)
placed count width k within =
    let some : 0 < width = some_bits count width k within in
    record { value = div_below k width count some within; bit = mod_below k width some; place = div-add-mod' k width }

-- bit m of byte k
pub byte_bit-at : (bytes : List ℕ) (k m : ℕ) → m < 8 → byte_bit bytes (k * 8 + m) ≡ bit_at (slice_index bytes k) m
byte_bit-at bytes k m within = ap (λ j. bit_at (slice_index bytes j) ((k * 8 + m) % 8)) (div-mul-add k 8 m within) ∙ ap (λ b. bit_at (slice_index bytes k) b) (mod-mul-add k 8 m within)

same_bit : (width : ℕ) (values bytes others : List ℕ) → IsPackedTail width values bytes → IsPackedTail width values others → (k : ℕ) → byte_bit bytes k ≡ byte_bit others k
same_bit width values bytes others p q k =
    elim (cases_lt k (length values * width)) [
      | inl used ↦
          let at = placed (length values) width k used in
          let here : byte_bit bytes (k / width * width + k % width) ≡ byte_bit others (k / width * width + k % width) = sym (p.bits (k / width) (k % width) at.value at.bit) ∙ q.bits (k / width) (k % width) at.value at.bit in
          subst (λ n. byte_bit bytes n ≡ byte_bit others n) at.place here
      | inr past ↦ p.unused k past ∙ sym (q.unused k past)
    ]

-- a tail is packed in one way
pub IsPackedTail-one : (width : ℕ) (values bytes others : List ℕ) → IsPackedTail width values bytes → IsPackedTail width values others → bytes ≡ others
IsPackedTail-one width values bytes others p q =
    ext_get_or 0 bytes others (p.size ∙ sym q.size) (λ k within.
    same_from_bits_below 8 (get_or bytes k 0) (get_or others k 0) (p.octets k) (q.octets k)
    (λ m low. sym (byte_bit-at bytes k m low) ∙ same_bit width values bytes others p q (k * 8 + m) ∙ byte_bit-at others k m low))

-- bit k of values that stand one after the other
abbrev value_bit : ℕ → List ℕ → ℕ → ℕ
value_bit width values k = bit_at (slice_index values (k / width)) (k % width)

-- the bytes of a tail
unfoldable tail_bytes : ℕ → List ℕ → List ℕ
tail_bytes width values = table (λ k. from_bits (λ m. value_bit width values (k * 8 + m)) 8) (packed_len (length values) width)

length-tail_bytes : (width : ℕ) (values : List ℕ) → length (tail_bytes width values) ≡ packed_len (length values) width
unfolding tail_bytes
length-tail_bytes width values = length-table _ (packed_len (length values) width)

tail_bytes-octets : (width : ℕ) (values : List ℕ) → AreOctets (tail_bytes width values)
unfolding tail_bytes
tail_bytes-octets width values k =
    let byte : ℕ → ℕ = λ j. from_bits (λ m. value_bit width values (j * 8 + m)) 8 in
    let size : ℕ = packed_len (length values) width in
    let P : ℕ → Type 0 = λ n. n < 2 ^ 8 in
    elim (cases_lt k size) [
      | inl inside ↦ subst P (sym (get_or-table byte size k inside)) (from_bits_lt _ 8 (λ m. bit_at-lt _ _))
      | inr past ↦ subst P (sym (get_or_past (table byte size) k 0 (omega (arith, length-table byte size)))) (omega arith)
    ]

encoded_bit : (width : ℕ) (values : List ℕ) (k : ℕ) → k < 8 * packed_len (length values) width → byte_bit (tail_bytes width values) k ≡ value_bit width values k
unfolding tail_bytes
encoded_bit width values k within =
    let byte : ℕ → ℕ = λ j. from_bits (λ m. value_bit width values (j * 8 + m)) 8 in
    let size : ℕ = packed_len (length values) width in
    let inside : k / 8 < size = omega arith in
    let place : k / 8 * 8 + k % 8 ≡ k = omega arith in
    ap (λ n. bit_at n (k % 8)) (get_or-table byte size (k / 8) inside)
    ∙ bit_at-from_bits (λ m. value_bit width values (k / 8 * 8 + m)) 8 (k % 8) (λ m. bit_at-lt _ _) (omega arith)
    ∙ ap (λ n. value_bit width values n) place

value_bit-at : (width : ℕ) (values : List ℕ) (i b : ℕ) → b < width → value_bit width values (i * width + b) ≡ bit_at (slice_index values i) b
value_bit-at width values i b low =
    ap (λ j. bit_at (slice_index values j) ((i * width + b) % width)) (div-mul-add i width b low) ∙ ap (λ c. bit_at (slice_index values i) c) (mod-mul-add i width b low)

-- behind the last value there is no bit
value_bit-past : (width : ℕ) (values : List ℕ) (k : ℕ) → 0 < width → length values * width ≤ k → value_bit width values k ≡ 0
value_bit-past width values k some past =
    ap (λ n. bit_at n (k % width)) (get_or_past values (k / width) 0 (le-div (length values) k width some past)) ∙ bit_at-zero (k % width)

pub byte_bit-past : (bytes : List ℕ) (k : ℕ) → 8 * length bytes ≤ k → byte_bit bytes k ≡ 0
byte_bit-past bytes k past = ap (λ n. bit_at n (k % 8)) (get_or_past bytes (k / 8) 0 (omega arith)) ∙ bit_at-zero (k % 8)

no_bytes : (count width k : ℕ) → k < 8 * packed_len count width → 0 < width
no_bytes count zero k within = absurd (omega arith)
no_bytes count (suc width) k within = omega arith

IsPackedTail-tail_bytes : (width : ℕ) (values : List ℕ) → AreBelow width values → IsPackedTail width values (tail_bytes width values)
IsPackedTail-tail_bytes width values small = record {
  small = small;
  octets = tail_bytes-octets width values;
  size = length-tail_bytes width values;
  bits = λ i b within low.
      let inside : i * width + b < width * length values = mul-add-lt i width b (length values) within low in
      sym (value_bit-at width values i b low) ∙ sym (encoded_bit width values (i * width + b) (omega arith));
  unused = λ k past.
      elim (cases_lt k (8 * packed_len (length values) width)) [
        | inl inside ↦ encoded_bit width values k inside ∙ value_bit-past width values k (no_bytes (length values) width k inside) past
        | inr beyond ↦ byte_bit-past (tail_bytes width values) k (omega (arith, length-tail_bytes width values))
      ];
}

-- values below 2^width are packed in some way
pub IsPackedTail-some : (width : ℕ) (values : List ℕ) → AreBelow width values → (bytes : List ℕ) × IsPackedTail width values bytes
IsPackedTail-some width values small = (tail_bytes width values, IsPackedTail-tail_bytes width values small)

-- bytes of the right length whose bits behind the last value are 0 are some tail
pub IsPackedTail-back : (width count : ℕ) (bytes : List ℕ) → AreOctets bytes → length bytes ≡ packed_len count width → ((k : ℕ) → count * width ≤ k → byte_bit bytes k ≡ 0)
    → (values : List ℕ) × (length values ≡ count) × IsPackedTail width values bytes
IsPackedTail-back width count bytes octets size unused =
    let bit : ℕ → ℕ → ℕ = λ i b. byte_bit bytes (i * width + b) in
    let value : ℕ → ℕ = λ i. from_bits (bit i) width in
    let long : length (table value count) ≡ count = length-table value count in (
      table value count,
      long,
      record {
        small = λ i within. subst (λ n. n < 2 ^ width) (sym (get_or-table value count i (omega (arith, long)))) (from_bits_lt (bit i) width (λ b. bit_at-lt _ _));
        octets = octets;
        size = size ∙ ap (λ n. packed_len n width) (sym long);
        bits = λ i b within low. ap (λ n. bit_at n b) (get_or-table value count i (omega (arith, long))) ∙ bit_at-from_bits (bit i) width b (λ c. bit_at-lt _ _) low;
        unused = λ k past. unused k (subst (λ n. n * width ≤ k) long past);
      },
    )

-- bit b of word i
words_bit : (values : List ℕ) (i b : ℕ) → i < length values → b < 64 → byte_bit (words_of values) (i * 64 + b) ≡ bit_at (slice_index values i) b
words_bit values i b within low =
    let byte : (i * 64 + b) / 8 ≡ 8 * i + b / 8 = omega arith in
    let bit : (i * 64 + b) % 8 ≡ b % 8 = omega arith in
    let place : 8 * (b / 8) + b % 8 ≡ b = omega arith in
    let value : ℕ = slice_index values i in
    ap (λ j. bit_at (slice_index (words_of values) j) ((i * 64 + b) % 8)) byte ∙ ap (λ m. bit_at (slice_index (words_of values) (8 * i + b / 8)) m) bit
    ∙ ap (λ n. bit_at n (b % 8)) (get_or-words_of values i (b / 8) within (omega arith))
    ∙ bit_at_low (value / 2 ^ (8 * (b / 8))) 8 (b % 8) (omega arith) ∙ bit_at_shr value (8 * (b / 8)) (b % 8) ∙ ap (λ m. bit_at value m) place

-- at 64 bits a tail is its words
pub IsPackedTail-words : (values : List ℕ) → AllByRecursion IsWord values → IsPackedTail 64 values (words_of values)
IsPackedTail-words values words = record {
  small = AreBelow-words values words;
  octets = words_of-octets values;
  size = omega (arith, length-words_of values);
  bits = λ i b within low. sym (words_bit values i b within low);
  unused = λ k past. byte_bit-past (words_of values) k (omega (arith, length-words_of values));
}
