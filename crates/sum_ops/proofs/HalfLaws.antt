-- The halves of 64-bit words.
use Rattle.std.proofs.Common.{◌≡◌, ℕ, ◌+◌, ◌*◌, ◌/◌, ◌^◌, ◌<◌, ◌≤◌, bit_and, arith}
use Rattle.std.proofs.lemmas.Nat.{and_mask, mul-le}

-- the greatest half
abbrev pub half : ℕ
half = 4294967295

pub low-small : (n : ℕ) → bit_and n half ≤ half
low-small n = omega (arith, and_mask n 32)

pub high-small : (n : ℕ) → n < 2 ^ 64 → n / 2 ^ 32 ≤ half
high-small n fits = omega arith

-- a number that is all low half
pub low-all : (n : ℕ) → n / 2 ^ 32 ≡ 0 → bit_and n half ≡ n
low-all n none = omega (arith, and_mask n 32)

-- a product of low halves is a word
pub product-fits : (a b : ℕ) → bit_and a half * bit_and b half < 2 ^ 64
product-fits a b = omega (arith, mul-le (bit_and a half) (bit_and b half) half half (low-small a) (low-small b))

-- halves of a total, and those of a number more
pub halves-join : (low high total more : ℕ) → low + high * 2 ^ 32 ≡ total → (low + bit_and more half) + (high + more / 2 ^ 32) * 2 ^ 32 ≡ total + more
halves-join low high total more is = omega (arith, and_mask more 32)
