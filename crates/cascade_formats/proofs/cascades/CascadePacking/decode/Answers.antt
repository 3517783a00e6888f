use Rattle.std.proofs.Common.{◌^◌, ◌<◌, ◌++◌, sym, ap, ◌∙◌, subst, arith}
use Rattle.definitions_blocks.specs.Words.{word_bytes}
use Rattle.definitions_blocks.specs.Packings.{IsBlock}
use Rattle.cascade_formats.proofs.CascadeParts.{inner_of, same_block, cascade_from}
use Rattle.cascade_formats.proofs.cascades.CascadePacking.decode.Goals as goal

pub rest_of-requires : goal.rest_of-requires
rest_of-requires g c =
    let is = c.requires in
    let inner = inner_of g.T.Transform.base_of g.T.Transform.differences_of g.P.Packing.encodes g.P.Packing.block_head c.args.param c.args.head.0 c.args.head.1 is.values c.args.bytes.now is.encoded (ap (λ h. h.0) is.headed) (ap (λ h. h.1) is.headed) in
    omega (arith, inner.long)

pub decode-requires : goal.decode-requires
decode-requires g c =
    let is = c.requires in
    let inner = inner_of g.T.Transform.base_of g.T.Transform.differences_of g.P.Packing.encodes g.P.Packing.block_head c.args.param c.args.head.0 c.args.head.1 is.values c.args.bytes.now is.encoded (ap (λ h. h.0) is.headed) (ap (λ h. h.1) is.headed) in
    subst (IsBlock g.P.Packing.encodes g.P.Packing.block_head c.args.param c.args.head.1) (sym (c.rest_of.ensures ∙ inner.rest_is)) inner.block

pub join-requires : goal.join-requires
join-requires g c =
    let is = c.requires in
    let inner = inner_of g.T.Transform.base_of g.T.Transform.differences_of g.P.Packing.encodes g.P.Packing.block_head c.args.param c.args.head.0 c.args.head.1 is.values c.args.bytes.now is.encoded (ap (λ h. h.0) is.headed) (ap (λ h. h.1) is.headed) in (
      is.values,
      record {
        full = is.encoded.full;
        base_is = ap (λ h. h.0) is.headed;
        differences_are = same_block g.P.Packing.encodes g.P.Packing.block_head c.args.param c.decode.new.into (g.T.Transform.differences_of is.values) c.rest_of.result.now is.encoded.inner g.met.P.Packing.laws c.decode.ensures is.encoded.differences (c.rest_of.ensures ∙ inner.rest_is);
      },
    )

pub returns : goal.returns
returns g c =
    let is = c.requires in
    let inner = inner_of g.T.Transform.base_of g.T.Transform.differences_of g.P.Packing.encodes g.P.Packing.block_head c.args.param c.args.head.0 c.args.head.1 is.values c.args.bytes.now is.encoded (ap (λ h. h.0) is.headed) (ap (λ h. h.1) is.headed) in
    cascade_from g.T.Transform.base_of g.T.Transform.differences_of (g.P.Packing.encodes c.args.param) c.args.head.0 c.join.new.block c.decode.new.into c.args.bytes.now c.rest_of.result.now c.join.ensures
    (subst (λ n. n < 2 ^ 64) (sym (ap (λ h. h.0) is.headed)) is.encoded.word) c.decode.ensures
    (inner.bytes_are ∙ ap (λ l. word_bytes c.args.head.0 ++ l) (sym (c.rest_of.ensures ∙ inner.rest_is)))
