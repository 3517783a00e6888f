-- A width above 0 is the least exactly if some value has its highest bit.
use Rattle.std.proofs.Common.{◌≡◌, ◌↔◌, ℕ, suc, ◌+◌, ◌-◌, ◌*◌, ◌/◌, ◌%◌, ◌^◌, ◌<◌, ◌≤◌, Bool, true, false, List, refl, sym, ap, ◌∙◌, subst, inl, inr, arith, below_more}
use Rattle.std.specs.Prelude.{slice_index, bit_or}
use Rattle.std.specs.Int.{bit_at}
use Rattle.std.proofs.Math.Nat.{pow-suc, zero-div}
use Rattle.std.proofs.lemmas.Bool.{cases_lt}
use Rattle.std.proofs.lemmas.Nat.{div_below, mod_below, div-add-mod', pow_pos}
use Rattle.std.proofs.lemmas.Nat.Bits.{bit_at_or}
use Rattle.definitions_blocks.specs.Packed.{strand_bit, AreBelow, IsPacked, IsWidth}
use Rattle.definitions_blocks.proofs.WidthLaws.{AreBelow-wider}

-- no bit of 0
pub bit_at-none : (bit : ℕ) → bit_at 0 bit ≡ 0
bit_at-none bit = ap (λ n. n % 2) (zero-div (2 ^ bit))

-- one word more of a line
pub line_more : (all word bit : ℕ) (of_word : ℕ → ℕ) (n : ℕ) → bit_at word bit ≡ of_word n → (bit_at all bit ≡ 0) ↔ ((s : ℕ) → s < n → of_word s ≡ 0)
    → (bit_at (bit_or all word) bit ≡ 0) ↔ ((s : ℕ) → s < n + 1 → of_word s ≡ 0)
line_more all word bit of_word n here line =
    let or = bit_at_or all word bit in (
      (λ none. below_more _ _ (line.0 (omega (arith, or))) (omega (arith, or))),
      (λ each. let before = line.1 (λ s below. each s (omega arith)) in let last = each n (omega arith) in omega (arith, or, before, last)),
    )

-- a number without its highest bit
below_half : (k value : ℕ) → value < 2 ^ suc k → bit_at value k ≡ 0 → value < 2 ^ k
below_half k value small none =
    let low : value / 2 ^ k < 2 = div_below value (2 ^ k) 2 (pow_pos k) (omega (arith, pow-suc 2 k)) in
    let zero_part : value / 2 ^ k ≡ 0 = omega (arith, low, none) in
    let rest : value % 2 ^ k < 2 ^ k = mod_below value (2 ^ k) (pow_pos k) in
    let whole : value / 2 ^ k * 2 ^ k + value % 2 ^ k ≡ value = div-add-mod' value (2 ^ k) in
    let gone : value / 2 ^ k * 2 ^ k ≡ 0 * 2 ^ k = ap (λ n. n * 2 ^ k) zero_part in
    omega arith

no_highest : (k value : ℕ) → value < 2 ^ k → bit_at value k ≡ 0
no_highest k value small =
    let low : value / 2 ^ k < 1 = div_below value (2 ^ k) 1 (pow_pos k) (omega arith) in
    let none : value / 2 ^ k ≡ 0 = omega arith in
    ap (λ n. n % 2) none

-- the highest bits of the values
abbrev highest : ℕ → List ℕ → ℕ → ℕ → ℕ
highest width bytes row strand = strand_bit bytes strand (row * width + (width - 1))

pub below_by_highest : (width : ℕ) (values bytes : List ℕ) → 0 < width → IsPacked width values bytes → ((row : ℕ) → row < 64 → (strand : ℕ) → strand < 16 → highest width bytes row strand ≡ 0) → AreBelow (width - 1) values
below_by_highest width values bytes some p none = λ i within.
    let one : width ≡ suc (width - 1) = omega arith in
    let inside : i < 1024 = omega (arith, p.count) in
    let bit : bit_at (slice_index values i) (width - 1) ≡ 0 = p.bits i (width - 1) inside (omega arith) ∙ none (i / 16) (omega arith) (i % 16) (omega arith) in
    below_half (width - 1) (slice_index values i) (subst (λ w. slice_index values i < 2 ^ w) one (p.small i within)) bit

pub highest_by_below : (width : ℕ) (values bytes : List ℕ) → 0 < width → IsPacked width values bytes → AreBelow (width - 1) values → (row : ℕ) → row < 64 → (strand : ℕ) → strand < 16 → highest width bytes row strand ≡ 0
highest_by_below width values bytes some p small row inside strand low =
    let i = row * 16 + strand in
    let at_row : i / 16 ≡ row = omega arith in
    let at_strand : i % 16 ≡ strand = omega arith in
    let bit = p.bits i (width - 1) (omega arith) (omega arith) in
    sym (ap (λ s. strand_bit bytes s (i / 16 * width + (width - 1))) at_strand ∙ ap (λ r. highest width bytes r strand) at_row)
    ∙ sym bit ∙ no_highest (width - 1) (slice_index values i) (small i (omega (arith, p.count)))

-- the least width is the one whose highest bit some value has
pub least_by_highest : (width : ℕ) (values : List ℕ) (found : Bool) → 0 < width → AreBelow width values → (found ≡ false) ↔ AreBelow (width - 1) values → (found ≡ true) ↔ IsWidth width values
least_by_highest width values true some small none = (
  (λ _.
      record {
        holds = small;
        least = λ other holds.
            elim (cases_lt other width) [
              | inl less ↦ absurd (cc (none.1 (AreBelow-wider other (width - 1) values (omega arith) holds)))
              | inr more ↦ more
            ];
      }),
  (λ _. refl),
)
least_by_highest width values false some small none = (
  (λ e. absurd (cc e)),
  (λ is. let up : width ≤ width - 1 = is.least (width - 1) (none.0 refl) in absurd (omega arith)),
)
