use Rattle.std.proofs.Common.{◌-◌, bit_or, get_or, ap, arith}
use Rattle.definitions_blocks.specs.Differences.{difference}
use Rattle.definitions_blocks.proofs.DeltaLaws.{lagged_differences-late}
use Rattle.size_chooser.proofs.SurveyLemmas.{bits_of-more}
use Rattle.size_chooser.proofs.passes.gap_bits.Goals as goal

pub loop-place-preserved : goal.loop-place-preserved
loop-place-preserved c =
    let values = c.args.values.now in
    let place = c.loop-place.place in
    let all = c.loop-place.all in
    bits_of-more 16 values place all (bit_or all c.difference_of-all.result) (difference (get_or values place 0) (get_or values (place - 16) 0)) (omega arith) (omega arith) c.loop-place.invariant
    (ap (bit_or all) c.difference_of-all.ensures) (lagged_differences-late 16 values place (omega arith) (omega arith))
