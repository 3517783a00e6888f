use Rattle.std.proofs.Common.{◌≡◌, [], ◌∷◌, arith, sym, subst, ◌∙◌}
use Rattle.definitions_blocks.specs.Differences.{AreLaggedSums}
use Rattle.definitions_blocks.proofs.LaggedSumLaws.{sums_of, AreLaggedSums-sums_of}
use Rattle.cascade_formats.proofs.Sums.{running, running_done}
use Rattle.cascade_formats.proofs.differences.sum_up.Goals as goal

pub loop-value-preserved : goal.loop-value-preserved
loop-value-preserved c = running c.loop-value.block c.loop-value.value-index c.loop-value.sum (omega arith) ∙ c.loop-value.invariant

pub returns : goal.returns
returns c =
    let made : c.loop-value.block ≡ sums_of c.args.block.now (c.args.base ∷ []) = sym (running_done c.loop-value.block c.loop-value.value-index c.loop-value.sum (omega arith)) ∙ c.loop-value.invariant in
    subst (AreLaggedSums 1 c.args.base c.args.block.now) (sym made) (AreLaggedSums-sums_of 1 c.args.base c.args.block.now (omega arith))
