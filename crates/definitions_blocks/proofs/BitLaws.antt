-- Bits of numbers, numbers made of equal parts, and lists made of a function.
use Rattle.std.proofs.Common.{◌≡◌, ℕ, zero, suc, ◌+◌, ◌-◌, ◌*◌, ◌/◌, ◌%◌, ◌^◌, ◌<◌, List, [], ◌∷◌, ◌++◌, length, get_or, refl, sym, ap, ◌∙◌, subst, inl, inr, add-one, arith}
use Rattle.std.specs.Int.{bit_at}
use Rattle.std.proofs.lemmas.Bool.{cases_lt}
use Rattle.std.proofs.lemmas.List.{length_push, get_or_push, get_or_append_left}
use Rattle.std.proofs.lemmas.Nat.{shr-shr, shr_split, pow_pos, pow-add, mul-add-lt}
use Rattle.std.proofs.lemmas.Nat.Bits.{bit_at-lt, bit_at_cat_low, bit_at_cat_high}

pub bit_at_shr : (n k i : ℕ) → bit_at (n / 2 ^ k) i ≡ bit_at n (k + i)
bit_at_shr n k i = ap (λ m. m % 2) (shr-shr n k i)

pub bit_at_low : (n k i : ℕ) → i < k → bit_at (n % 2 ^ k) i ≡ bit_at n i
bit_at_low n k i below = sym (bit_at_cat_low (n / 2 ^ k) k (n % 2 ^ k) i below) ∙ ap (λ m. bit_at m i) (shr_split n k)

-- a bit, as a number, is its own lowest bit
pub bit_at_bit : (n i : ℕ) → bit_at (bit_at n i) 0 ≡ bit_at n i
bit_at_bit n i = let below = bit_at-lt n i in omega (arith, below)

-- the number with the n parts f 0, f 1 and so on, of p bits each, the lowest first
unfoldable pub total : ℕ → (ℕ → ℕ) → ℕ → ℕ
total p f zero = 0
total p f (suc n) = f n * 2 ^ (n * p) + total p f n

-- the first n parts have p bits
abbrev pub Below : ℕ → (ℕ → ℕ) → ℕ → Type 0
Below p f n = (r : ℕ) → r < n → f r < 2 ^ p

pub total-zero : (p : ℕ) (f : ℕ → ℕ) → total p f 0 ≡ 0
unfolding total
total-zero p f = refl

pub total-suc : (p : ℕ) (f : ℕ → ℕ) (n : ℕ) → total p f (suc n) ≡ f n * 2 ^ (n * p) + total p f n
unfolding total
total-suc p f n = refl

pub total_more : (p : ℕ) (f : ℕ → ℕ) (n : ℕ) → total p f (n + 1) ≡ f n * 2 ^ (n * p) + total p f n
total_more p f n = ap (total p f) (add-one n) ∙ total-suc p f n

pub total_lt : (p : ℕ) (f : ℕ → ℕ) (n : ℕ) → Below p f n → total p f n < 2 ^ (n * p)
unfolding total
total_lt p f zero small = pow_pos (zero * p)
total_lt p f (suc n) small =
    let rest : total p f n < 2 ^ (n * p) = total_lt p f n (λ r below. small r (omega arith)) in
    let here : f n < 2 ^ p = small n (omega arith) in
    let both : f n * 2 ^ (n * p) + total p f n < 2 ^ (n * p) * 2 ^ p = mul-add-lt (f n) (2 ^ (n * p)) (total p f n) (2 ^ p) here rest in
    let P : ℕ → Type 0 = λ m. f n * 2 ^ (n * p) + total p f n < m in
    let places : n * p + p ≡ suc n * p = omega arith in
    subst P (sym (pow-add 2 (n * p) p) ∙ ap (λ m. 2 ^ m) places) both

-- bit b of part r is bit `r * p + b` of the number
pub total_bit : (p : ℕ) (f : ℕ → ℕ) (n r b : ℕ) → Below p f n → r < n → b < p → bit_at (total p f n) (r * p + b) ≡ bit_at (f r) b
unfolding total
total_bit p f zero r b small within bit = absurd (omega arith)
total_bit p f (suc n) r b small within bit =
    let fewer : Below p f n = λ r below. small r (omega arith) in
    elim (cases_lt r n) [
      | inl earlier ↦
          let row : r * p + b < p * n = mul-add-lt r p b n earlier bit in
          bit_at_cat_low (f n) (n * p) (total p f n) (r * p + b) (omega arith) ∙ total_bit p f n r b fewer earlier bit
      | inr later ↦
          let last : r ≡ n = omega arith in
          let place : (r * p + b) - n * p ≡ b = omega (arith, ap (λ m. m * p) last) in
          bit_at_cat_high (f n) (n * p) (total p f n) (r * p + b) (total_lt p f n fewer) (omega (arith, ap (λ m. m * p) last))
          ∙ ap (λ m. bit_at (f n) m) place ∙ ap (λ m. bit_at (f m) b) (sym last)
    ]

pub total_same : (p : ℕ) (f g : ℕ → ℕ) (n : ℕ) → ((r : ℕ) → r < n → f r ≡ g r) → total p f n ≡ total p g n
unfolding total
total_same p f g zero same = refl
total_same p f g (suc n) same =
    let rest : total p f n ≡ total p g n = total_same p f g n (λ r below. same r (omega arith)) in
    let here : f n ≡ g n = same n (omega arith) in
    ap (λ m. m * 2 ^ (n * p) + total p f n) here ∙ ap (λ m. g n * 2 ^ (n * p) + m) rest

-- the number with these n bits
abbrev pub from_bits : (ℕ → ℕ) → ℕ → ℕ
from_bits bit n = total 1 bit n

bits_below : (bit : ℕ → ℕ) (n : ℕ) → ((i : ℕ) → bit i < 2) → Below 1 bit n
bits_below bit n small = λ i within. small i

pub from_bits_lt : (bit : ℕ → ℕ) (n : ℕ) → ((i : ℕ) → bit i < 2) → from_bits bit n < 2 ^ n
from_bits_lt bit n small =
    let P : ℕ → Type 0 = λ m. from_bits bit n < 2 ^ m in
    let places : n * 1 ≡ n = omega arith in
    subst P places (total_lt 1 bit n (bits_below bit n small))

pub bit_at-from_bits : (bit : ℕ → ℕ) (n i : ℕ) → ((k : ℕ) → bit k < 2) → i < n → bit_at (from_bits bit n) i ≡ bit i
bit_at-from_bits bit n i small within =
    let place : i * 1 + 0 ≡ i = omega arith in
    let here : bit i < 2 = small i in
    let lowest : bit_at (bit i) 0 ≡ bit i = omega arith in
    ap (λ m. bit_at (from_bits bit n) m) (sym place) ∙ total_bit 1 bit n i 0 (bits_below bit n small) within (omega arith) ∙ lowest

-- the list f 0, f 1 and so on, of length n
unfoldable pub table : (ℕ → ℕ) → ℕ → List ℕ
table f zero = []
table f (suc n) = table f n ++ f n ∷ []

pub length-table : (f : ℕ → ℕ) (n : ℕ) → length (table f n) ≡ n
unfolding table
length-table f zero = refl
length-table f (suc n) = let rest : length (table f n) ≡ n = length-table f n in omega (arith, length_push (table f n) (f n))

pub get_or-table : (f : ℕ → ℕ) (n i : ℕ) → i < n → get_or (table f n) i 0 ≡ f i
unfolding table
get_or-table f zero i within = absurd (omega arith)
get_or-table f (suc n) i within =
    elim (cases_lt i n) [
      | inl earlier ↦ get_or_append_left (table f n) (f n ∷ []) 0 i (omega (arith, length-table f n)) ∙ get_or-table f n i earlier
      | inr later ↦
          let last : n ≡ i = omega arith in
          get_or_push (table f n) (f n) 0 i (length-table f n ∙ last) ∙ ap f last
    ]
