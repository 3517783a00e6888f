-- How long a block's encoding is, and how one of its values follows from differences.
use Rattle.std.proofs.Common.{◌≡◌, ℕ, zero, suc, ◌+◌, ◌*◌, ◌%◌, ◌^◌, ◌<◌, List, length, drop, get_or, sym, ap, ◌∙◌, arith, length-append}
use Rattle.std.proofs.lemmas.List.{drop_at}
use Rattle.definitions_blocks.specs.Words.{word_bytes}
use Rattle.definitions_blocks.specs.Blocks.{block_values, IsFull}
use Rattle.definitions_blocks.specs.Differences.{delta16_of, first_of, least_of, reference_of}
use Rattle.definitions_blocks.specs.Encodings.{IsCascade}
use Rattle.definitions_blocks.specs.Formats.{Format, BlockOf}
use Rattle.definitions_blocks.proofs.WordLaws.{length-word_bytes}
use Rattle.definitions_blocks.proofs.BlockLaws.{BlockOf-short}
use Rattle.definitions_blocks.proofs.DeltaLaws.{delta16_of-early, delta16_of-late, first_of-word}
use Rattle.definitions_blocks.proofs.ReferenceLaws.{least_of-le, reference_of-at}
use Rattle.definitions_blocks.proofs.WordListLaws.{words_at}

-- an encoding is short
pub sized : (format : Format) (width : ℕ) (values : List ℕ) → (bytes : List ℕ) × BlockOf format width values bytes → (bytes : List ℕ) × (length bytes < 2 ^ 32) × BlockOf format width values bytes
sized format width values s = (s.0, omega (arith, BlockOf-short format width values s.0 s.1), s.1)

-- what stands behind the base of a cascade
pub record Inside (base_of : List ℕ → ℕ) (differences_of : List ℕ → List ℕ) (values bytes inner : List ℕ) : Type 0 where
  pub rest : drop 8 bytes ≡ inner
  pub size : length bytes ≡ 8 + length inner

pub inside : (base_of : List ℕ → ℕ) (differences_of : List ℕ → List ℕ) (encodes : List ℕ → List ℕ → Type 0) (values bytes : List ℕ)
    → (is : IsCascade base_of differences_of encodes values bytes) → Inside base_of differences_of values bytes is.inner
inside base_of differences_of encodes values bytes is =
    let word = word_bytes (base_of values) in
    let long : length word ≡ 8 = length-word_bytes (base_of values) in
    record {
      rest = ap (drop 8) is.encoded ∙ drop_at word is.inner 8 long;
      size = omega (arith, ap length is.encoded, length-append word is.inner, long);
    }

-- a value is the least one and its difference to it
pub lowered : (values : List ℕ) (place : ℕ) → IsFull values → place < block_values → least_of values + get_or (reference_of values) place 0 ≡ get_or values place 0
lowered values place is within =
    let at = reference_of-at values place (omega (arith, is.whole)) in
    let low = least_of-le values place (omega (arith, is.whole)) in
    omega (arith, at, low)

-- the value of a strand before a row, which is the first value before the first row
abbrev pub before_row : List ℕ → ℕ → ℕ → ℕ
before_row values strand zero = first_of values
before_row values strand (suc row) = get_or values (row * 16 + strand) 0

-- a value of a row is the one before it and its difference
pub row_value : (values : List ℕ) (strand row : ℕ) → IsFull values → strand < 16 → row * 16 + strand < block_values
    → (before_row values strand row + get_or (delta16_of values) (row * 16 + strand) 0) % 2 ^ 64 ≡ get_or values (row * 16 + strand) 0
row_value values strand zero is early within =
    let place : zero * 16 + strand ≡ strand = omega arith in
    let at = delta16_of-early values strand early (omega (arith, is.whole)) in
    let word = words_at values is.words strand in
    let base = first_of-word values is in
    let sum : (first_of values + get_or (delta16_of values) strand 0) % 2 ^ 64 ≡ get_or values strand 0 = omega (arith, at, word, base) in
    ap (λ n. (first_of values + get_or (delta16_of values) n 0) % 2 ^ 64) place ∙ sum ∙ ap (λ n. get_or values n 0) (sym place)
row_value values strand (suc row) is early within =
    let earlier = row * 16 + strand in
    let place : suc row * 16 + strand ≡ earlier + 16 = omega arith in
    let at = delta16_of-late values earlier (omega (arith, is.whole, within)) in
    let word = words_at values is.words (earlier + 16) in
    let base = words_at values is.words earlier in
    let sum : (get_or values earlier 0 + get_or (delta16_of values) (earlier + 16) 0) % 2 ^ 64 ≡ get_or values (earlier + 16) 0 = omega (arith, at, word, base) in
    ap (λ n. (get_or values earlier 0 + get_or (delta16_of values) n 0) % 2 ^ 64) place ∙ sum ∙ ap (λ n. get_or values n 0) (sym place)
