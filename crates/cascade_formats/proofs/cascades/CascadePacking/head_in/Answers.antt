use Rattle.std.proofs.Common.{◌≡◌, refl, sym, ap₂, ◌∙◌, subst, arith}
use Rattle.definitions_blocks.proofs.PrefixLaws.{same_word}
use Rattle.cascade_formats.proofs.CascadeParts.{inner_of, made_up}
use Rattle.cascade_formats.proofs.cascades.CascadePacking.head_in.Goals as goal

pub word_of-requires : goal.word_of-requires
word_of-requires g c =
    let is = c.requires.1 in
    let inner = inner_of g.T.Transform.base_of g.T.Transform.differences_of g.P.Packing.encodes g.P.Packing.block_head c.args.param _ _ c.requires.0 c.args.bytes.now is refl refl in
    omega (arith, inner.long)

pub rest_of-requires : goal.rest_of-requires
rest_of-requires g c =
    let is = c.requires.1 in
    let inner = inner_of g.T.Transform.base_of g.T.Transform.differences_of g.P.Packing.encodes g.P.Packing.block_head c.args.param _ _ c.requires.0 c.args.bytes.now is refl refl in
    omega (arith, inner.long)

pub head_in-requires : goal.head_in-requires
head_in-requires g c =
    let is = c.requires.1 in
    let inner = inner_of g.T.Transform.base_of g.T.Transform.differences_of g.P.Packing.encodes g.P.Packing.block_head c.args.param _ _ c.requires.0 c.args.bytes.now is refl refl in
    (g.T.Transform.differences_of c.requires.0, subst (g.P.Packing.encodes c.args.param (g.T.Transform.differences_of c.requires.0)) (sym (c.rest_of.ensures ∙ inner.rest_is)) is.differences)

pub returns : goal.returns
returns g c = λ values is.
    let differences = g.T.Transform.differences_of values in
    let inner = inner_of g.T.Transform.base_of g.T.Transform.differences_of g.P.Packing.encodes g.P.Packing.block_head c.args.param _ _ values c.args.bytes.now is refl refl in
    let base : c.word_of.result ≡ g.T.Transform.base_of values =
    same_word c.word_of.result (g.T.Transform.base_of values) c.rest_of.result.now is.inner c.word_of.type_inv is.word
    (sym (made_up c.word_of.result c.args.bytes.now c.rest_of.result.now c.word_of.ensures c.rest_of.ensures) ∙ inner.bytes_are) in
    ap₂ (λ b h. (b, h)) base (c.head_in.ensures differences (subst (g.P.Packing.encodes c.args.param differences) (sym (c.rest_of.ensures ∙ inner.rest_is)) is.differences))
