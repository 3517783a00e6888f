-- The mask of the lanes that lie in a range, from one comparison: `x - low`, mod 2 ^ 64, is at most `high - low` exactly if
-- x is from low to high.
use Rattle.std.proofs.Common.{◌≡◌, ℕ, ◌+◌, ◌-◌, ◌%◌, ◌^◌, ◌<◌, ◌≤◌, ◌↔◌, Bool, true, false, cond, leb, List, map, length, get_or, replicate, Fits, w16, w64, sym, subst, ap, ◌∙◌, arith}
use Rattle.std.proofs.lemmas.Simd.{zip2_splat, bitmask_splat, map-map, mask_l-lt, bit_mask_l, length-zip2, length-replicate}
use Rattle.std.proofs.lemmas.List.{get_or-map, length-map}
use Rattle.std.proofs.lemmas.Bool.{leb-true, le-leb}
use Rattle.std.proofs.lemmas.Nat.Bits.{and_pow}
use Rattle.std.proofs.lemmas.Nat.{pow_pos}
use Rattle.std.proofs.Math.Nat.{pow-le-pow_right}
use Rattle.std.specs.Int.{IsBitSet, bit_at}
use lib.Lanes.{zip2, mask_l, top}

-- the difference of two lanes, as the machine gives it
abbrev pub difference : ℕ → ℕ → ℕ
difference a b = (a + (2 ^ 64 - b)) % 2 ^ 64

-- what a comparison of two lanes gives: all ones, or none
abbrev pub at_most : ℕ → ℕ → ℕ
at_most a b = cond (leb a b) (2 ^ 64 - 1) 0

abbrev pub is_inside : ℕ → ℕ → ℕ → Bool
is_inside low span x = leb (difference x low) span

pub mask_is : (low span : ℕ) (lanes : List ℕ) (n : ℕ) → length lanes ≡ n → n ≤ 64
    → mask_l (map (top 63) (zip2 at_most (zip2 difference lanes (replicate n low)) (replicate n span))) % 2 ^ 64
    ≡ mask_l (map (is_inside low span) lanes)
mask_is low span lanes n long short =
    bitmask_splat w64 leb (zip2 difference lanes (replicate n low)) n span (length-zip2 difference lanes (replicate n low) (long ∙ sym (length-replicate n low)) ∙ long) short
    ∙ ap (λ l. mask_l (map (λ d. leb d span) l)) (zip2_splat difference lanes n low long)
    ∙ ap mask_l (map-map (λ d. leb d span) (λ x. difference x low) lanes)

pub mask_lt : (p : ℕ → Bool) (lanes : List ℕ) (n : ℕ) → length lanes ≡ n → mask_l (map p lanes) < 2 ^ n
mask_lt p lanes n long = let below = mask_l-lt (map p lanes) in subst (λ k. mask_l (map p lanes) < 2 ^ k) (length-map lanes p ∙ long) below

pub mask_fits : (p : ℕ → Bool) (lanes : List ℕ) (n : ℕ) → length lanes ≡ n → n ≤ 16 → Fits w16 (mask_l (map p lanes))
mask_fits p lanes n long few =
    let below = mask_lt p lanes n long in
    let most : 2 ^ n ≤ 2 ^ 16 = pow-le-pow_right (omega arith) few in
    record { fits = omega arith }

-- a bit that is 1 exactly if a test passes is set exactly then
set_where : (test : Bool) (mask lane : ℕ) → bit_at mask lane ≡ cond test 1 0 → IsBitSet mask lane ↔ (test ≡ true)
set_where true mask lane bit = grind (arith, and_pow, pow_pos, bit)
set_where false mask lane bit = grind (arith, and_pow, bit)

inside_lies : (low high x : ℕ) → low ≤ high → high < 2 ^ 64 → x < 2 ^ 64 → difference x low ≤ high - low → (low ≤ x) × (x ≤ high)
inside_lies low high x order top fits small = (omega arith, omega arith)

lies_inside : (low high x : ℕ) → high < 2 ^ 64 → low ≤ x → x ≤ high → difference x low ≤ high - low
lies_inside low high x top above below = omega arith

-- bit `lane` of the mask is set exactly if that lane lies in the range
pub mask_bit : (low high : ℕ) (lanes : List ℕ) (lane : ℕ) → low ≤ high → high < 2 ^ 64 → get_or lanes lane 0 < 2 ^ 64 → lane < length lanes
    → IsBitSet (mask_l (map (is_inside low (high - low)) lanes)) lane ↔ ((low ≤ get_or lanes lane 0) × (get_or lanes lane 0 ≤ high))
mask_bit low high lanes lane order top fits within =
    let p = is_inside low (high - low) in
    let x = get_or lanes lane 0 in
    let bit : bit_at (mask_l (map p lanes)) lane ≡ cond (p x) 1 0 = bit_mask_l (map p lanes) lane ∙ ap (λ b. cond b 1 0) (get_or-map p lanes lane 0 false within) in
    let set = set_where (p x) (mask_l (map p lanes)) lane bit in
    (λ yes. inside_lies low high x order top fits (leb-true _ _ (set.0 yes)), λ inside. set.1 (le-leb _ _ (lies_inside low high x top inside.0 inside.1)))
