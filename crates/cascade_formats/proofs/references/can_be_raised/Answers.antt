use Rattle.std.proofs.Common.{◌≡◌, ◌-◌, ◌≤◌, ◌<◌, get_or, inl, inr, refl, arith}
use Rattle.std.proofs.lemmas.Bool.{leb-true, le-leb, cases_lt}
use Rattle.definitions_blocks.specs.Differences.{least_of}
use Rattle.definitions_blocks.proofs.ReferenceLaws.{least_of-le, least_of-at}
use Rattle.cascade_formats.proofs.references.can_be_raised.Goals as goal

pub returns-then-zeros-eq0 : goal.returns-then-zeros-eq0
returns-then-zeros-eq0 c = (
  λ t. absurd (cc t),
  λ h.
      let values = c.args.differences.now in
      let met = least_of-at values (omega (arith, c.requires)) in
      let some : 0 < get_or values met.0 0 = c.zeros_and_bits-zeros.ensures.none.0 c.if-zeros-eq0.true met.0 met.1.within in
      absurd (omega (arith, h.0, met.1.is)),
)

pub returns-then-bits-base : goal.returns-then-bits-base
returns-then-bits-base c =
    let values = c.args.differences.now in
    let low : least_of values ≡ 0 =
    elim (cases_lt 0 (least_of values)) [
      | inl above ↦ absurd (c.if-zeros-eq0.false (c.zeros_and_bits-zeros.ensures.none.1 (λ place within. let up = least_of-le values place within in omega arith)))
      | inr zero ↦ omega arith
    ] in
    let base = c.ranges.base.fits in
    (λ t. (low, λ place within. let up = c.zeros_and_bits-zeros.ensures.bits place within in omega (arith, c.if-bits-base.true)), λ h. refl)

pub returns : goal.returns
returns c =
    let values = c.args.differences.now in
    let greatest = c.extremes-greatest.result.1 in
    let limit = 18446744073709551615 - c.args.base in
    let base = c.ranges.base.fits in
    let least : least_of values ≡ 0 =
    elim (cases_lt 0 (least_of values)) [
      | inl above ↦ absurd (c.if-zeros-eq0.false (c.zeros_and_bits-zeros.ensures.none.1 (λ place within. let up = least_of-le values place within in omega arith)))
      | inr zero ↦ omega arith
    ] in (
      λ t.
          let low : greatest ≤ limit = leb-true greatest limit t in
          (least, λ place within. let up = c.extremes-greatest.ensures.greatest place within in omega arith),
      λ h. le-leb greatest limit (c.extremes-greatest.ensures.bound limit (λ place within. let small = h.1 place within in omega arith)),
    )
