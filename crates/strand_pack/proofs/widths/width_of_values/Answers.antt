use Rattle.std.proofs.Common.{get_or, arith, below_more}
use Rattle.std.proofs.lemmas.Nat.{le_or_l, le_or_r, or_lt}
use Rattle.strand_pack.proofs.WidthLaws.{IsWidth-from_bits}
use Rattle.strand_pack.proofs.widths.width_of_values.Goals as goal

pub loop-value-preserved : goal.loop-value-preserved
loop-value-preserved c =
    let here = get_or c.args.values.now c.loop-value.value-index 0 in
    let all = c.loop-value.all in
    record {
      each = below_more _ _
          (λ k below. let old = c.loop-value.invariant.each k below in let kept = le_or_l all here in omega arith)
          (le_or_r all here);
      least = λ v small. or_lt v all here (c.loop-value.invariant.least v (λ k below. small k (omega arith))) (small c.loop-value.value-index (omega arith));
    }

pub returns-clause-least : goal.returns-clause-least
returns-clause-least c =
    IsWidth-from_bits c.args.values.now c.loop-value.all (c.loop-value.auto.all-fits.fits)
    (λ k below. c.loop-value.invariant.each k (omega arith))
    (λ v small. c.loop-value.invariant.least v (λ k below. small k (omega arith)))
