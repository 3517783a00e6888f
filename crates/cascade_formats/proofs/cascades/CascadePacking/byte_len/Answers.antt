use Rattle.std.proofs.Common.{rules, ◌+◌, ◌^◌, ◌<◌, ap, arith}
use Rattle.cascade_formats.proofs.CascadeParts.{inner_of}
use Rattle.cascade_formats.proofs.cascades.CascadePacking.byte_len.Goals as goal

pub overflow_add-result : goal.overflow_add-result
overflow_add-result g c =
    let is = c.requires.2 in
    let inner = inner_of g.T.Transform.base_of g.T.Transform.differences_of g.P.Packing.encodes g.P.Packing.block_head c.args.param c.args.head.0 c.args.head.1 is.values c.requires.0 is.encoded (ap (λ h. h.0) is.headed) (ap (λ h. h.1) is.headed) in
    let size = c.byte_len.ensures is.encoded.inner inner.block in
    let fits : 8 + c.byte_len.result < 2 ^ 64 = omega (arith, size, inner.long, c.requires.1) in
    search rules

pub returns : goal.returns
returns g c = λ bytes is.
    let inner = inner_of g.T.Transform.base_of g.T.Transform.differences_of g.P.Packing.encodes g.P.Packing.block_head c.args.param c.args.head.0 c.args.head.1 is.values bytes is.encoded (ap (λ h. h.0) is.headed) (ap (λ h. h.1) is.headed) in
    let size = c.byte_len.ensures is.encoded.inner inner.block in
    omega (arith, size, inner.long)
