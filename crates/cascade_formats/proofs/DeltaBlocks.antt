-- Which base and differences of a delta are those of a block, and what its calls leave.
use Rattle.std.proofs.Common.{◌≡◌, ◌↔◌, ℕ, ◌^◌, ◌<◌, Bool, true, List, length, replicate, get_or, sym, ap, ◌∙◌, subst, arith}
use Rattle.std.specs.List.{refill}
use Rattle.definitions_blocks.specs.Blocks.{IsFull, block_values}
use Rattle.definitions_blocks.specs.Differences.{first_of, lagged_differences, AreLaggedSums}
use Rattle.definitions_blocks.specs.Packings.{IsSplit}
use Rattle.definitions_blocks.proofs.WordListLaws.{full_from}
use Rattle.definitions_blocks.proofs.LaggedSumLaws.{sums_of}
use Rattle.definitions_blocks.proofs.DeltaLaws.{summed, lagged_differences-full, lagged_differences-first, length-lagged_differences, AreLaggedSums-block}
use Rattle.cascade_formats.proofs.Written.{refill_is}

lagged_split : (lag base : ℕ) (ds : List ℕ) → 0 < lag → base < 2 ^ 64 → IsFull ds → get_or ds 0 0 ≡ 0 → (values : List ℕ) × IsSplit first_of (lagged_differences lag) base values ds
lagged_split lag base ds some word is zero =
    let s = summed lag base ds some word is zero in
    (sums_of ds (replicate lag base), record { full = s.full; base_is = s.base_is; differences_are = s.differences_are })

pub lagged_begins : (lag base : ℕ) (values ds : List ℕ) → 0 < lag → IsSplit first_of (lagged_differences lag) base values ds → (length ds ≡ block_values) × (get_or ds 0 0 ≡ 0)
lagged_begins lag base values ds some s =
    (ap length s.differences_are ∙ (lagged_differences-full lag values s.full).whole, ap (λ l. get_or l 0 0) s.differences_are ∙ lagged_differences-first lag values some)

-- base and differences are a block's if these are a block's worth and the first is 0
pub lagged_allowed : (lag base : ℕ) (slice ds : List ℕ) (result : Bool) → 0 < lag → base < 2 ^ 64 → slice ≡ ds → ((place : ℕ) → get_or slice place 0 < 2 ^ 64)
    → (result ≡ true) ↔ ((length slice ≡ block_values) × (get_or slice 0 0 ≡ 0)) → (result ≡ true) ↔ ((values : List ℕ) × IsSplit first_of (lagged_differences lag) base values ds)
lagged_allowed lag base slice ds result some word same words begins = (
  λ t.
      let at = begins.0 t in
      lagged_split lag base ds some word (full_from slice ds same words (sym (ap length same) ∙ at.0)) (sym (ap (λ l. get_or l 0 0) same) ∙ at.1),
  λ s.
      let at = lagged_begins lag base s.0 ds some s.1 in
      begins.1 (ap length same ∙ at.0, ap (λ l. get_or l 0 0) same ∙ at.1),
)

-- the differences, over what stood there
pub lagged_written : (lag n : ℕ) (before written slice full : List ℕ) → n ≡ block_values → slice ≡ full → length full ≡ block_values → written ≡ lagged_differences lag slice → refill n before written ≡ lagged_differences lag full
lagged_written lag n before written slice full many same whole e =
    let made : written ≡ lagged_differences lag full = e ∙ ap (lagged_differences lag) same in
    refill_is n before written (omega (arith, ap length made, length-lagged_differences lag full)) ∙ made

-- the block is back, over its differences
pub lagged_joined : (lag base : ℕ) (values ds slice written : List ℕ) → 0 < lag → IsSplit first_of (lagged_differences lag) base values ds → slice ≡ ds → AreLaggedSums lag base slice written
    → IsSplit first_of (lagged_differences lag) base (refill (length ds) ds written) ds
lagged_joined lag base values ds slice written some s same sums =
    let back : written ≡ values = AreLaggedSums-block lag base values slice written some s.full s.base_is (same ∙ s.differences_are) sums in
    let long : length written ≡ length ds = omega (arith, ap length back, ap length s.differences_are, length-lagged_differences lag values) in
    subst (λ v. IsSplit first_of (lagged_differences lag) base v ds) (sym (refill_is (length ds) ds written long ∙ back)) s
