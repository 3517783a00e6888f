-- The width of values from a number that has each of their bits, or from the least and the greatest of them.
use Rattle.std.proofs.Common.{◌≡◌, ℕ, zero, suc, ◌+◌, ◌-◌, ◌^◌, ◌<◌, ◌≤◌, max, bit_or, List, [], ◌∷◌, length, get_or, fold, arith}
use Rattle.std.proofs.lemmas.Nat.{le_or_l, le_or_r, or_lt, pow_pos}
use Rattle.std.specs.Int.{leading_zeros, w64}
use Rattle.definitions_blocks.specs.Blocks.{IsFull}
use Rattle.definitions_blocks.specs.Packed.{AreBelow, IsWidth}
use Rattle.definitions_blocks.specs.Encodings.{width_of}
use Rattle.definitions_blocks.specs.Differences.{least_of, reference_of}
use Rattle.definitions_blocks.proofs.WordListLaws.{words_at}
use Rattle.definitions_blocks.proofs.WidthLaws.{width_of-is, AreBelow-words}
use Rattle.definitions_blocks.proofs.ReferenceLaws.{least_of-le, reference_of-at, reference_of-full}
use Rattle.strand_pack.proofs.WidthLaws.{IsWidth-from_bits}
use Rattle.size_chooser.specs.Surveys.{bits_of, greatest_of}

bits_above : (all : ℕ) (values : List ℕ) → all ≤ fold bit_or all values
bits_above all [] = omega arith
bits_above all (value ∷ values) = omega (arith, le_or_l all value, bits_above (bit_or all value) values)

bits_each : (all : ℕ) (values : List ℕ) (k : ℕ) → k < length values → get_or values k 0 ≤ fold bit_or all values
bits_each all [] k within = absurd (omega arith)
bits_each all (value ∷ values) zero within = omega (arith, le_or_r all value, bits_above (bit_or all value) values)
bits_each all (value ∷ values) (suc k) within = bits_each (bit_or all value) values k (omega arith)

bits_below : (v all : ℕ) (values : List ℕ) → all < 2 ^ v → AreBelow v values → fold bit_or all values < 2 ^ v
bits_below v all [] low small = low
bits_below v all (value ∷ values) low small = bits_below v (bit_or all value) values (or_lt v all value low (small 0 (omega arith))) (λ k within. small (suc k) (omega arith))

-- the width of values is that of their bits
pub IsWidth-bits : (values : List ℕ) (all : ℕ) → IsFull values → all ≡ bits_of values → IsWidth (64 - leading_zeros w64 all) values
IsWidth-bits values all full is =
    IsWidth-from_bits values all
    (omega (arith, is, bits_below 64 0 values (pow_pos 64) (AreBelow-words values full.words)))
    (λ k within. omega (arith, is, bits_each 0 values k within))
    (λ v small. omega (arith, is, bits_below v 0 values (pow_pos v) small))

pub width_from_bits : (values : List ℕ) (all : ℕ) → IsFull values → all ≡ bits_of values → width_of values ≡ 64 - leading_zeros w64 all
width_from_bits values all full is = width_of-is (64 - leading_zeros w64 all) values (IsWidth-bits values all full is) (omega arith)

fold_max-most : (most a : ℕ) (values : List ℕ) → a ≤ most → ((k : ℕ) → k < length values → get_or values k 0 ≤ most) → fold max a values ≤ most
fold_max-most most a [] low each = low
fold_max-most most a (value ∷ values) low each = fold_max-most most (max a value) values (omega (arith, each 0 (omega arith))) (λ k within. each (suc k) (omega arith))

fold_max-above : (a : ℕ) (values : List ℕ) → a ≤ fold max a values
fold_max-above a [] = omega arith
fold_max-above a (value ∷ values) = omega (arith, fold_max-above (max a value) values)

fold_max-each : (a : ℕ) (values : List ℕ) (k : ℕ) → k < length values → get_or values k 0 ≤ fold max a values
fold_max-each a [] k within = absurd (omega arith)
fold_max-each a (value ∷ values) zero within = omega (arith, fold_max-above (max a value) values)
fold_max-each a (value ∷ values) (suc k) within = fold_max-each (max a value) values k (omega arith)

-- the least value is at most the greatest one
pub least_of-greatest : (values : List ℕ) → 0 < length values → least_of values ≤ greatest_of values
least_of-greatest values some = omega (arith, least_of-le values 0 some, fold_max-each 0 values 0 some)

-- the width of the differences to the least value is that of the greatest less the least
pub width_from_spread : (values : List ℕ) (low high : ℕ) → IsFull values → low ≡ least_of values → high ≡ greatest_of values → width_of (reference_of values) ≡ 64 - leading_zeros w64 (high - low)
width_from_spread values low high full is_low is_high =
    let whole = full.whole in
    let long = (reference_of-full values full).whole in
    let most : greatest_of values ≤ 2 ^ 64 - 1 = fold_max-most (2 ^ 64 - 1) 0 values (omega arith) (λ k within. omega (arith, words_at values full.words k)) in
    let width : IsWidth (64 - leading_zeros w64 (high - low)) (reference_of values) = IsWidth-from_bits (reference_of values) (high - low) (omega arith)
    (λ k within. omega (arith, reference_of-at values k (omega (arith, long)), fold_max-each 0 values k (omega (arith, long)), is_low, is_high))
    (λ v small.
    let each : (k : ℕ) → k < length values → get_or values k 0 ≤ low + (2 ^ v - 1) =
    λ k within. omega (arith, reference_of-at values k within, small k (omega (arith, long)), least_of-le values k within, is_low) in
    let top : greatest_of values ≤ low + (2 ^ v - 1) = fold_max-most (low + (2 ^ v - 1)) 0 values (omega arith) each in
    omega (arith, is_high, pow_pos v, top)) in
    width_of-is (64 - leading_zeros w64 (high - low)) (reference_of values) width (omega arith)
