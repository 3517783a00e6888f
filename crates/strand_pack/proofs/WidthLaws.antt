-- The width of a list from one number that has every bit of its values.
use Rattle.std.proofs.Common.{◌≡◌, ℕ, suc, ◌+◌, ◌-◌, ◌*◌, ◌^◌, ◌<◌, ◌≤◌, List, length, get_or, sym, subst, inl, inr, arith}
use Rattle.std.specs.Int.{leading_zeros, w64}
use Rattle.std.proofs.Math.Nat.{pow-suc, pow-le-pow_right}
use Rattle.std.proofs.lemmas.Bool.{cases_lt}
use Rattle.std.proofs.lemmas.Nat.{leading_length}
use Rattle.definitions_blocks.specs.Packed.{AreBelow, IsWidth}

-- a number whose half is below a power is below the next
half_below : (m v all : ℕ) → 2 ^ m ≤ 2 * all + 1 → all < 2 ^ v → m ≤ v
half_below m v all high low =
    elim (cases_lt v m) [
      | inl more ↦
          let wider : 2 ^ suc v ≤ 2 ^ m = pow-le-pow_right (omega arith) (omega arith) in
          omega (arith, pow-suc 2 v)
      | inr less ↦ less
    ]

-- the values are at most `all`, which is below every power that they are below
pub IsWidth-from_bits : (values : List ℕ) (all : ℕ) → all < 2 ^ 64 → ((k : ℕ) → k < length values → get_or values k 0 ≤ all) → ((v : ℕ) → AreBelow v values → all < 2 ^ v)
    → IsWidth (64 - leading_zeros w64 all) values
IsWidth-from_bits values all fits each least =
    let found = leading_length 64 all fits in
    let m = found.0 in
    let width : 64 - leading_zeros w64 all ≡ m = omega (arith, found.1) in
    let made : IsWidth m values = record {
      holds = λ k within. let low = each k within in omega (arith, found.2);
      least = λ v small. half_below m v all (found.3) (least v small);
    } in
    subst (λ n. IsWidth n values) (sym width) made
