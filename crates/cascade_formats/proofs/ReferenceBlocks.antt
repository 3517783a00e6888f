-- Which base and differences of a frame of reference are those of a block, and what its calls leave.
use Rattle.std.proofs.Common.{◌≡◌, ℕ, ◌+◌, ◌-◌, ◌^◌, ◌<◌, ◌≤◌, List, length, get_or, sym, ap, ◌∙◌, subst, arith}
use Rattle.std.specs.List.{refill}
use Rattle.std.proofs.lemmas.List.{length-map}
use Rattle.definitions_blocks.specs.Blocks.{IsFull, block_values}
use Rattle.definitions_blocks.specs.Differences.{least_of, reference_of, raised}
use Rattle.definitions_blocks.specs.Packings.{IsSplit}
use Rattle.definitions_blocks.proofs.ReferenceLaws.{raised_is, reference_of-zero, reference_of-small, least_of-at, least_of-le, raised-reference_of}
use Rattle.cascade_formats.proofs.Written.{refill_is}

pub reference_split : (base : ℕ) (ds : List ℕ) → IsFull ds → least_of ds ≡ 0 → ((i : ℕ) → i < length ds → base + get_or ds i 0 < 2 ^ 64) → (values : List ℕ) × IsSplit least_of reference_of base values ds
reference_split base ds is zero small =
    let met = least_of-at ds (omega (arith, is.whole)) in
    let s = raised_is base ds met.0 is (record { within = met.1.within; is = met.1.is ∙ zero }) small in
    (raised base ds, record { full = s.full; base_is = s.base_is; differences_are = s.differences_are })

pub reference_zero : (base : ℕ) (values ds : List ℕ) → IsSplit least_of reference_of base values ds → least_of ds ≡ 0
reference_zero base values ds s =
    let at = reference_of-zero values s.full in
    let low : least_of (reference_of values) ≤ get_or (reference_of values) at.0 0 = least_of-le (reference_of values) at.0 at.1.within in
    ap least_of s.differences_are ∙ omega (arith, at.1.is)

pub reference_fits : (base : ℕ) (values ds : List ℕ) → IsSplit least_of reference_of base values ds → (i : ℕ) → i < length ds → base + get_or ds i 0 < 2 ^ 64
reference_fits base values ds s i within =
    let inside : i < length (reference_of values) = omega (arith, ap length s.differences_are) in
    let small = reference_of-small values i s.full inside in
    let same : get_or ds i 0 ≡ get_or (reference_of values) i 0 = ap (λ l. get_or l i 0) s.differences_are in
    omega (arith, s.base_is)

pub reference_written : (n : ℕ) (before written slice full : List ℕ) → n ≡ block_values → slice ≡ full → length full ≡ block_values → written ≡ reference_of slice → refill n before written ≡ reference_of full
reference_written n before written slice full many same whole e =
    let made : written ≡ reference_of full = e ∙ ap reference_of same in
    refill_is n before written (omega (arith, ap length made, length-map full (λ value. value - least_of full))) ∙ made

-- the block is back, over its differences
pub reference_joined : (base : ℕ) (values ds slice written : List ℕ) → IsSplit least_of reference_of base values ds → slice ≡ ds → written ≡ raised base slice → IsSplit least_of reference_of base (refill (length ds) ds written) ds
reference_joined base values ds slice written s same e =
    let back : written ≡ values = e ∙ ap (raised base) (same ∙ s.differences_are) ∙ raised-reference_of base values s.full s.base_is in
    let long : length written ≡ length ds = omega (arith, ap length back, ap length s.differences_are, length-map values (λ value. value - least_of values)) in
    subst (λ v. IsSplit least_of reference_of base v ds) (sym (refill_is (length ds) ds written long ∙ back)) s
