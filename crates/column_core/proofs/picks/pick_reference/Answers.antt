use Rattle.std.proofs.Common.{◌≡◌, ◌^◌, ◌<◌, get_or, sym, subst, ◌∙◌, arith, ap}
use Rattle.definitions_blocks.specs.Differences.{least_of, reference_of}
use Rattle.definitions_blocks.specs.Encodings.{IsDynamicBlock}
use Rattle.definitions_blocks.proofs.WordListLaws.{words_at}
use Rattle.column_core.proofs.BlockLemmas.{inside, lowered}
use Rattle.column_core.proofs.picks.pick_reference.Goals as goal

pub differences_in-requires : goal.differences_in-requires
differences_in-requires c =
    let parts = inside least_of reference_of IsDynamicBlock c.requires.encoded.0 c.args.bytes.now c.requires.encoded.1 in
    omega (arith, parts.size)

pub pick_dynamic-requires-clause-encoded : goal.pick_dynamic-requires-clause-encoded
pick_dynamic-requires-clause-encoded c =
    let values = c.requires.encoded.0 in
    let is = c.requires.encoded.1 in
    let parts = inside least_of reference_of IsDynamicBlock values c.args.bytes.now is in
    (reference_of values, subst (IsDynamicBlock (reference_of values)) (sym (c.differences_in.ensures ∙ parts.rest)) is.differences)

pub returns : goal.returns
returns c = λ values is.
    let parts = inside least_of reference_of IsDynamicBlock values c.args.bytes.now is in
    let difference : c.pick_dynamic.result ≡ get_or (reference_of values) c.args.place 0 =
    c.pick_dynamic.ensures (reference_of values) (subst (IsDynamicBlock (reference_of values)) (sym (c.differences_in.ensures ∙ parts.rest)) is.differences) in
    let base : c.head_in-base.result.0 ≡ least_of values = ap (λ head. head.0) (c.head_in-base.ensures values is) in
    let word : get_or values c.args.place 0 < 2 ^ 64 = words_at values is.full.words c.args.place in
    let sum = lowered values c.args.place is.full c.requires.within in
    omega (arith, difference, base, word, sum)
