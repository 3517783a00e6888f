use Rattle.std.proofs.Common.{take, arith}
use Rattle.std.proofs.lemmas.List.{length-take}
use Rattle.size_chooser.proofs.BitLemmas.{least_of-greatest}
use Rattle.size_chooser.proofs.passes.spread_of.Goals as goal

pub overflow_sub-result : goal.overflow_sub-result
overflow_sub-result c =
    let front = take c.loop-place.place c.args.values.now in
    let long = length-take c.loop-place.place c.args.values.now in
    omega (arith, c.loop-place.invariant.least, c.loop-place.invariant.greatest, least_of-greatest front (omega arith))
