-- Bytes are one block at a width, a block has one encoding, and every block and all bytes of a size have one.
use Rattle.std.proofs.Common.{◌≡◌, ℕ, ◌+◌, ◌*◌, ◌/◌, ◌%◌, ◌^◌, ◌<◌, ◌≤◌, List, ◌++◌, length, get_or, sym, ap, ◌∙◌, subst, inl, inr, arith}
use Rattle.std.specs.Prelude.{slice_index}
use Rattle.std.specs.Int.{bit_at}
use Rattle.std.proofs.lemmas.Bool.{cases_lt}
use Rattle.std.proofs.lemmas.List.{ext_get_or, get_or_past}
use Rattle.std.proofs.lemmas.Nat.{mul-add-lt, div-mul-add, mod-mul-add, div_below, mod_below, div-add-mod'}
use Rattle.std.proofs.lemmas.Nat.Bits.{bit_at-lt, same_from_bits_below}
use Rattle.definitions_blocks.specs.Words.{AreOctets}
use Rattle.definitions_blocks.specs.Blocks.{block_values, IsFull}
use Rattle.definitions_blocks.specs.Packed.{strand_bit, AreBelow, IsPacked}
use Rattle.definitions_blocks.proofs.BitLaws.{from_bits, from_bits_lt, bit_at-from_bits, table, length-table, get_or-table}
use Rattle.definitions_blocks.proofs.WordListLaws.{words_from}
use Rattle.definitions_blocks.proofs.PrefixLaws.{same_front}
use Rattle.definitions_blocks.proofs.WidthLaws.{AreBelow-wider}

-- bytes are at most one block
pub packed_one_block : (width : ℕ) (values others bytes : List ℕ) → IsPacked width values bytes → IsPacked width others bytes → values ≡ others
packed_one_block width values others bytes p q =
    ext_get_or 0 values others (p.count ∙ sym q.count) (λ i within.
    let inside : i < 1024 = omega (arith, p.count) in
    same_from_bits_below width (get_or values i 0) (get_or others i 0) (p.small i within) (q.small i (omega (arith, p.count, q.count)))
    (λ b low. p.bits i b inside low ∙ sym (q.bits i b inside low)))

-- bit m of byte k is bit `place_of k m` of strand `strand_of k`
abbrev strand_of : ℕ → ℕ
strand_of k = k / 8 % 16

abbrev place_of : ℕ → ℕ → ℕ
place_of k m = k / 8 / 16 * 64 + k % 8 * 8 + m

place_word : (k m : ℕ) → m < 8 → 8 * (place_of k m / 64 * 16 + strand_of k) + place_of k m % 64 / 8 ≡ k
place_word k m within = omega arith

place_bit : (k m : ℕ) → m < 8 → place_of k m % 64 % 8 ≡ m
place_bit k m within = omega arith

strand_bit_at : (bytes : List ℕ) (k m : ℕ) → m < 8 → strand_bit bytes (strand_of k) (place_of k m) ≡ bit_at (slice_index bytes k) m
strand_bit_at bytes k m within =
    ap (λ j. bit_at (slice_index bytes j) (place_of k m % 64 % 8)) (place_word k m within) ∙ ap (λ b. bit_at (slice_index bytes k) b) (place_bit k m within)

-- bit p of strand s is bit b of the value in row r
record IsPlaced (width p s i b : ℕ) : Type 0 where
  row : i < 1024
  bit : b < width
  strand : i % 16 ≡ s
  place : i / 16 * width + b ≡ p

placed : (width p s : ℕ) → p < 64 * width → s < 16 → IsPlaced width p s (p / width * 16 + s) (p % width)
placed width p s within strand =
    let some : 0 < width = omega arith in
    let row : p / width < 64 = div_below p width 64 some within in
    let high : (p / width * 16 + s) / 16 ≡ p / width = omega arith in
    record { row = omega arith; bit = mod_below p width some; strand = omega arith; place = ap (λ r. r * width + p % width) high ∙ div-add-mod' p width }

place_below : (width k m : ℕ) → k < 128 * width → m < 8 → place_of k m < 64 * width
place_below width k m within bit = omega arith

one_bit : (width : ℕ) (values a b : List ℕ) → IsPacked width values a → IsPacked width values b → (p s : ℕ) → p < 64 * width → s < 16 → strand_bit a s p ≡ strand_bit b s p
one_bit width values a b x y p s within strand =
    let at = placed width p s within strand in
    let i = p / width * 16 + s in
    let bit = p % width in
    let same : strand_bit a (i % 16) (i / 16 * width + bit) ≡ strand_bit b (i % 16) (i / 16 * width + bit) = sym (x.bits i bit at.row at.bit) ∙ y.bits i bit at.row at.bit in
    let here : ℕ → ℕ → Type 0 = λ t q. strand_bit a t q ≡ strand_bit b t q in
    subst (λ t. here t p) at.strand (subst (λ q. here (i % 16) q) at.place same)

-- a block has at most one encoding
pub packed_one_encoding : (width : ℕ) (values a b : List ℕ) → IsPacked width values a → IsPacked width values b → a ≡ b
packed_one_encoding width values a b x y =
    ext_get_or 0 a b (x.size ∙ sym y.size) (λ k within.
    same_from_bits_below 8 (get_or a k 0) (get_or b k 0) (x.octets k) (y.octets k) (λ m low.
    let inside : place_of k m < 64 * width = place_below width k m (omega (arith, x.size)) low in
    sym (strand_bit_at a k m low) ∙ one_bit width values a b x y (place_of k m) (strand_of k) inside (omega arith) ∙ strand_bit_at b k m low))

-- where two packed blocks at one width begin the same bytes, they are the same
pub packed_prefix : (width : ℕ) (values others a b x y : List ℕ) → IsPacked width values a → IsPacked width others b → a ++ x ≡ b ++ y → (a ≡ b) × (values ≡ others)
packed_prefix width values others a b x y p q e =
    let front : a ≡ b = same_front a b x y (p.size ∙ sym q.size) e in
    (front, packed_one_block width values others b (subst (λ l. IsPacked width values l) front p) q)

-- the block that bytes are
unfoldable pub packed_values : ℕ → List ℕ → List ℕ
packed_values width bytes = table (λ i. from_bits (λ b. strand_bit bytes (i % 16) (i / 16 * width + b)) width) 1024

strand_bit-lt : (bytes : List ℕ) (s k : ℕ) → strand_bit bytes s k < 2
strand_bit-lt bytes s k = bit_at-lt _ _

-- any bytes of the right size are a block
pub IsPacked-values : (width : ℕ) (bytes : List ℕ) → width ≤ 64 → length bytes ≡ 128 * width → AreOctets bytes → IsPacked width (packed_values width bytes) bytes
unfolding packed_values
IsPacked-values width bytes narrow size octets =
    let value : ℕ → ℕ = λ i. from_bits (λ b. strand_bit bytes (i % 16) (i / 16 * width + b)) width in
    let long : length (table value 1024) ≡ 1024 = length-table value 1024 in
    record {
      narrow = narrow;
      count = long;
      size = size;
      octets = octets;
      small = λ i within. subst (λ n. n < 2 ^ width) (sym (get_or-table value 1024 i (omega (arith, long)))) (from_bits_lt _ width (λ k. strand_bit-lt bytes (i % 16) (i / 16 * width + k)));
      bits = λ i b within low. ap (λ n. bit_at n b) (get_or-table value 1024 i within) ∙ bit_at-from_bits (λ k. strand_bit bytes (i % 16) (i / 16 * width + k)) width b (λ k. strand_bit-lt bytes (i % 16) (i / 16 * width + k)) low;
    }

-- bit p of strand s, from the values
abbrev value_bit : ℕ → List ℕ → ℕ → ℕ → ℕ
value_bit width values s p = bit_at (slice_index values (p / width * 16 + s)) (p % width)

-- the bytes that encode a block
unfoldable pub packed_bytes : ℕ → List ℕ → List ℕ
packed_bytes width values = table (λ k. from_bits (λ m. value_bit width values (strand_of k) (place_of k m)) 8) (128 * width)

encoded_bit : (width : ℕ) (values : List ℕ) (s p : ℕ) → p < 64 * width → s < 16 → strand_bit (packed_bytes width values) s p ≡ value_bit width values s p
unfolding packed_bytes
encoded_bit width values s p within strand =
    let byte : ℕ → ℕ = λ k. from_bits (λ m. value_bit width values (strand_of k) (place_of k m)) 8 in
    let k = 8 * (p / 64 * 16 + s) + p % 64 / 8 in
    let m = p % 64 % 8 in
    let inside : k < 128 * width = omega arith in
    let same_strand : strand_of k ≡ s = omega arith in
    let same_place : place_of k m ≡ p = omega arith in
    ap (λ n. bit_at n m) (get_or-table byte (128 * width) k inside)
    ∙ bit_at-from_bits (λ b. value_bit width values (strand_of k) (place_of k b)) 8 m (λ b. bit_at-lt _ _) (omega arith)
    ∙ ap (λ t. value_bit width values t (place_of k m)) same_strand ∙ ap (λ q. value_bit width values s q) same_place

value_bit_at : (width : ℕ) (values : List ℕ) (i b : ℕ) → b < width → value_bit width values (i % 16) (i / 16 * width + b) ≡ bit_at (slice_index values i) b
value_bit_at width values i b low =
    let row : (i / 16 * width + b) / width ≡ i / 16 = div-mul-add (i / 16) width b low in
    let bit : (i / 16 * width + b) % width ≡ b = mod-mul-add (i / 16) width b low in
    let place : i / 16 * 16 + i % 16 ≡ i = omega arith in
    ap (λ r. bit_at (slice_index values (r * 16 + i % 16)) ((i / 16 * width + b) % width)) row
    ∙ ap (λ j. bit_at (slice_index values j) ((i / 16 * width + b) % width)) place ∙ ap (λ c. bit_at (slice_index values i) c) bit

packed_bytes-octets : (width : ℕ) (values : List ℕ) → AreOctets (packed_bytes width values)
unfolding packed_bytes
packed_bytes-octets width values k =
    let byte : ℕ → ℕ = λ j. from_bits (λ m. value_bit width values (strand_of j) (place_of j m)) 8 in
    let P : ℕ → Type 0 = λ n. n < 2 ^ 8 in
    elim (cases_lt k (128 * width)) [
      | inl inside ↦ subst P (sym (get_or-table byte (128 * width) k inside)) (from_bits_lt _ 8 (λ m. bit_at-lt _ _))
      | inr past ↦ subst P (sym (get_or_past (table byte (128 * width)) k 0 (omega (arith, length-table byte (128 * width))))) (omega arith)
    ]

length-packed_bytes : (width : ℕ) (values : List ℕ) → length (packed_bytes width values) ≡ 128 * width
unfolding packed_bytes
length-packed_bytes width values = length-table _ (128 * width)

-- any small values have an encoding
pub IsPacked-encoding : (width : ℕ) (values : List ℕ) → width ≤ 64 → length values ≡ block_values → AreBelow width values → IsPacked width values (packed_bytes width values)
IsPacked-encoding width values narrow count small = record {
  narrow = narrow;
  count = count;
  size = length-packed_bytes width values;
  octets = packed_bytes-octets width values;
  small = small;
  bits = λ i b within low.
      let row : i / 16 < 64 = omega arith in
      let place : i / 16 * width + b < width * 64 = mul-add-lt (i / 16) width b 64 row low in
      sym (value_bit_at width values i b low) ∙ sym (encoded_bit width values (i % 16) (i / 16 * width + b) (omega arith) (omega arith));
}

-- the block is one of 64-bit numbers
pub IsPacked-full : (width : ℕ) (values bytes : List ℕ) → IsPacked width values bytes → IsFull values
IsPacked-full width values bytes p = record { whole = p.count; words = words_from values (AreBelow-wider width 64 values p.narrow p.small) }

pub IsPacked-sized : (width : ℕ) (values others a b : List ℕ) → IsPacked width values a → IsPacked width others b → length a ≡ length b
IsPacked-sized width values others a b p q = p.size ∙ sym q.size
