-- The bits of a tail behind its last value: they are in its last byte.
use Rattle.std.proofs.Common.{◌≡◌, ℕ, ◌+◌, ◌-◌, ◌*◌, ◌/◌, ◌%◌, ◌^◌, ◌<◌, ◌≤◌, List, length, get_or, sym, ap, ◌∙◌, inl, inr, arith}
use Rattle.std.specs.Int.{bit_at}
use Rattle.std.proofs.lemmas.Bool.{cases_lt}
use Rattle.std.proofs.lemmas.Nat.Bits.{bit_at-zero, bit_at_above, same_from_bits}
use Rattle.definitions_blocks.specs.Words.{AreOctets}
use Rattle.definitions_blocks.proofs.BitLaws.{bit_at_shr}
use Rattle.definitions_columns.specs.Tails.{byte_bit}
use Rattle.definitions_columns.proofs.TailLaws.{byte_bit-past, byte_bit-at}

-- so many bits end in the last byte, or with it
pub record EndWithin (bits : ℕ) (bytes : List ℕ) : Type 0 where
  pub begun : 8 * length bytes < bits + 8
  pub inside : bits ≤ 8 * length bytes

-- bits that end with the last byte leave none of it
pub none_behind : (bits : ℕ) (bytes : List ℕ) → EndWithin bits bytes → bits % 8 ≡ 0 → (k : ℕ) → bits ≤ k → byte_bit bytes k ≡ 0
none_behind bits bytes ends whole k past =
    let begun : 8 * length bytes < bits + 8 = ends.begun in
    byte_bit-past bytes k (omega arith)

-- what is left of the last byte tells the bits behind
pub clear_behind : (bits : ℕ) (bytes : List ℕ) → EndWithin bits bytes → get_or bytes (length bytes - 1) 0 / 2 ^ (bits % 8) ≡ 0 → (k : ℕ) → bits ≤ k → byte_bit bytes k ≡ 0
clear_behind bits bytes ends clear k past =
    let begun : 8 * length bytes < bits + 8 = ends.begun in
    let inside : bits ≤ 8 * length bytes = ends.inside in
    let last : ℕ = get_or bytes (length bytes - 1) 0 in
    elim (cases_lt k (8 * length bytes)) [
      | inl within ↦
          let byte : k / 8 ≡ length bytes - 1 = omega arith in
          let place : k % 8 ≡ bits % 8 + (k % 8 - bits % 8) = omega arith in
          ap (λ j. bit_at (get_or bytes j 0) (k % 8)) byte ∙ ap (bit_at last) place ∙ sym (bit_at_shr last (bits % 8) (k % 8 - bits % 8)) ∙ ap (λ n. bit_at n (k % 8 - bits % 8)) clear
          ∙ bit_at-zero (k % 8 - bits % 8)
      | inr beyond ↦ byte_bit-past bytes k beyond
    ]

pub left_clear : (bits : ℕ) (bytes : List ℕ) → EndWithin bits bytes → AreOctets bytes → (bits % 8 ≡ 0 → ⊥) → ((k : ℕ) → bits ≤ k → byte_bit bytes k ≡ 0) → get_or bytes (length bytes - 1) 0 / 2 ^ (bits % 8) ≡ 0
left_clear bits bytes ends octets some clear =
    let begun : 8 * length bytes < bits + 8 = ends.begun in
    let inside : bits ≤ 8 * length bytes = ends.inside in
    let last : ℕ = get_or bytes (length bytes - 1) 0 in
    same_from_bits (last / 2 ^ (bits % 8)) 0 (λ i.
    bit_at_shr last (bits % 8) i
    ∙ elim (cases_lt (bits % 8 + i) 8) as (λ c. bit_at last (bits % 8 + i) ≡ bit_at 0 i) [
      | inl within ↦ sym (byte_bit-at bytes (length bytes - 1) (bits % 8 + i) within) ∙ clear ((length bytes - 1) * 8 + (bits % 8 + i)) (omega arith) ∙ sym (bit_at-zero i)
      | inr beyond ↦ bit_at_above last 8 (bits % 8 + i) (octets (length bytes - 1)) beyond ∙ sym (bit_at-zero i)
    ])
