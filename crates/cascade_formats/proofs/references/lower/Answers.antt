use Rattle.std.proofs.Common.{arith}
use Rattle.definitions_blocks.proofs.ReferenceLaws.{least_of-le, reference_of-is}
use Rattle.cascade_formats.proofs.references.lower.Goals as goal

pub overflow_sub-into : goal.overflow_sub-into
overflow_sub-into c =
    let low = least_of-le c.args.values.now c.loop-place.place (omega arith) in
    omega (arith, c.requires.least)

pub returns : goal.returns
returns c = reference_of-is c.args.least c.args.values.now c.loop-place.into c.requires.least (omega arith) (λ i within. c.loop-place.invariant i (omega arith))
