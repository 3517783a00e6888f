use Rattle.std.proofs.Common.{arith}
use Rattle.cascade_formats.proofs.CascadeParts.{too_few, none_inside, not_allowed, block_found}
use Rattle.cascade_formats.proofs.cascades.CascadePacking.check.Goals as goal

pub returns-then-bytes-lt8 : goal.returns-then-bytes-lt8
returns-then-bytes-lt8 g c = too_few g.T.Transform.base_of g.T.Transform.differences_of g.P.Packing.encodes c.args.param c.args.bytes.now (omega arith)

pub returns-in-None : goal.returns-in-None
returns-in-None g c = none_inside g.T.Transform.base_of g.T.Transform.differences_of g.P.Packing.encodes c.args.param c.args.bytes.now c.rest_of-rest.result.now c.rest_of-rest.ensures c.in-None.ensures

pub returns-then-allowed : goal.returns-then-allowed
returns-then-allowed g c =
    let found = c.allowed.ensures.0 c.if-allowed.true in
    block_found g.T.Transform.base_of g.T.Transform.differences_of g.P.Packing.encodes g.P.Packing.block_head c.args.param c.word_of-base.result _ _ c.args.bytes.now c.rest_of-rest.result.now c.decode.new.into found.0
    g.met.P.Packing.laws c.word_of-base.type_inv c.word_of-base.ensures c.rest_of-rest.ensures (omega arith) c.in-Some.ensures c.decode.ensures found.1

pub returns-else-allowed : goal.returns-else-allowed
returns-else-allowed g c =
    not_allowed g.T.Transform.base_of g.T.Transform.differences_of g.P.Packing.encodes g.P.Packing.block_head c.args.param c.word_of-base.result _ c.args.bytes.now c.rest_of-rest.result.now c.decode.new.into
    g.met.P.Packing.laws c.word_of-base.type_inv c.word_of-base.ensures c.rest_of-rest.ensures c.decode.ensures
    (λ values split. let holds = c.allowed.ensures.1 (values, split) in cc (holds, c.if-allowed.false))
