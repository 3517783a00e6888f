-- Strands that are packed: each whose words are the number that its values make encodes them, and 16 of them are a block.
use Rattle.std.proofs.Common.{◌≡◌, ℕ, ◌+◌, ◌*◌, ◌/◌, ◌%◌, ◌^◌, ◌<◌, ◌≤◌, ◌⊎◌, List, length, get_or, sym, ap, ◌∙◌, inl, inr, arith}
use Rattle.std.specs.Int.{bit_at}
use Rattle.std.proofs.lemmas.Bool.{cases_lt}
use Rattle.std.proofs.lemmas.Nat.{mul-add-lt}
use Rattle.definitions_blocks.specs.Packed.{strand_bit, AreBelow, IsPacked}
use Rattle.definitions_blocks.proofs.BitLaws.{total, total_bit, Below}
use Rattle.definitions_blocks.specs.Words.{word_of}
use Rattle.strand_pack.specs.Words.{AreEncoded}
use Rattle.definitions_blocks.proofs.WordListLaws.{word_of-lt}
use Rattle.strand_pack.proofs.WordBits.{word_of-bit}

-- word `line` of a strand, and the value in a row of it
abbrev pub word_in : List ℕ → ℕ → ℕ → ℕ
word_in bytes strand line = word_of bytes (line * 16 + strand)

abbrev pub value_of : List ℕ → ℕ → ℕ → ℕ
value_of values strand row = get_or values (row * 16 + strand) 0

-- byte k is in none of the n strands from the first on
abbrev pub IsBeside : ℕ → ℕ → ℕ → Type 0
IsBeside first n k = (k / 8 % 16 < first) ⊎ (first + n ≤ k / 8 % 16)

-- a strand whose words are the number that its values make encodes them
pub one_strand : (width rows strand row b : ℕ) (values bytes : List ℕ) → ((k : ℕ) → get_or bytes k 0 < 2 ^ 8) → Below width (value_of values strand) rows
    → total 64 (word_in bytes strand) width ≡ total width (value_of values strand) rows → rows ≡ 64 → row < rows → b < width
    → bit_at (value_of values strand row) b ≡ strand_bit bytes strand (row * width + b)
one_strand width rows strand row b values bytes octets small same all within low =
    let k = row * width + b in
    let inside : row * width + b < width * rows = mul-add-lt row width b rows within low in
    let most : width * rows ≡ width * 64 = ap (λ n. width * n) all in
    let word : k / 64 < width = omega arith in
    let place : k / 64 * 64 + k % 64 ≡ k = omega arith in
    sym (total_bit width (value_of values strand) rows row b small within low)
    ∙ ap (λ n. bit_at n k) (sym same)
    ∙ ap (λ m. bit_at (total 64 (word_in bytes strand) width) m) (sym place)
    ∙ total_bit 64 (word_in bytes strand) width (k / 64) (k % 64) (λ r below. word_of-lt bytes (r * 16 + strand) octets) word (omega arith)
    ∙ word_of-bit bytes (k / 64 * 16 + strand) (k % 64) octets (omega arith)

-- a block whose 16 strands are encoded is packed
pub IsPacked-from_encoded : (width past : ℕ) (values bytes : List ℕ) → past ≡ 16 → width ≤ 64 → length values ≡ 1024 → length bytes ≡ 128 * width → ((k : ℕ) → get_or bytes k 0 < 2 ^ 8) → AreBelow width values
    → AreEncoded width 0 past values bytes → IsPacked width values bytes
IsPacked-from_encoded width past values bytes all narrow count size octets small encoded = record {
  narrow = narrow;
  count = count;
  size = size;
  octets = octets;
  small = small;
  bits = λ i b within low.
      let place : i ≡ i / 16 * 16 + i % 16 = omega arith in
      ap (λ j. bit_at (get_or values j 0) b) place ∙ encoded.bits (i % 16) (i / 16) b (omega arith) (omega arith) (omega arith) low;
}

-- more strands are encoded, and the earlier ones stay
pub AreEncoded-more : (width first n : ℕ) (values bytes after : List ℕ) → first + n ≤ 16 → AreEncoded width 0 first values bytes → AreEncoded width first (first + n) values after
    → ((k : ℕ) → IsBeside first n k → get_or after k 0 ≡ get_or bytes k 0) → AreEncoded width 0 (first + n) values after
AreEncoded-more width first n values bytes after fits old new same = record {
  bits = λ strand row b from below rows low.
      elim (cases_lt strand first) [
        | inl earlier ↦
            let k = row * width + b in
            let byte = 8 * (k / 64 * 16 + strand) + k % 64 / 8 in
            let there : byte / 8 % 16 < first = omega arith in
            old.bits strand row b from earlier rows low ∙ ap (λ v. bit_at v (k % 64 % 8)) (sym (same byte (inl there)))
        | inr later ↦ new.bits strand row b later below rows low
      ];
}
