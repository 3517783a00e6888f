use Rattle.std.proofs.Common.{◌≡◌, ◌+◌, ◌*◌, ◌/◌, ◌%◌, ◌^◌, get_or, ap, ap₂, sym, subst, ◌∙◌, suc, add-one, arith}
use Rattle.definitions_blocks.specs.Differences.{delta16_of, first_of}
use Rattle.definitions_blocks.specs.Encodings.{IsDynamicBlock}
use Rattle.column_core.proofs.BlockLemmas.{inside, before_row, row_value}
use Rattle.column_core.proofs.picks.pick_delta16.Goals as goal

pub differences_in-differences-requires : goal.differences_in-differences-requires
differences_in-differences-requires c =
    let parts = inside first_of delta16_of IsDynamicBlock c.requires.encoded.0 c.args.bytes.now c.requires.encoded.1 in
    omega (arith, parts.size)

pub loop-row-init : goal.loop-row-init
loop-row-init c = λ values is. ap (λ head. head.0) (c.head_in-base.ensures values is)

pub pick_dynamic-difference-requires-clause-encoded : goal.pick_dynamic-difference-requires-clause-encoded
pick_dynamic-difference-requires-clause-encoded c =
    let values = c.requires.encoded.0 in
    let is = c.requires.encoded.1 in
    let parts = inside first_of delta16_of IsDynamicBlock values c.args.bytes.now is in
    (delta16_of values, subst (IsDynamicBlock (delta16_of values)) (sym (c.differences_in-differences.ensures ∙ parts.rest)) is.differences)

pub loop-row-preserved : goal.loop-row-preserved
loop-row-preserved c = λ values is.
    let row = c.loop-row.row in
    let strand = c.args.place % 16 in
    let parts = inside first_of delta16_of IsDynamicBlock values c.args.bytes.now is in
    let difference : c.pick_dynamic-difference.result ≡ get_or (delta16_of values) (row * 16 + strand) 0 =
    c.pick_dynamic-difference.ensures (delta16_of values) (subst (IsDynamicBlock (delta16_of values)) (sym (c.differences_in-differences.ensures ∙ parts.rest)) is.differences) in
    let sum = row_value values strand row is.full (omega arith) (omega (arith, c.loop-row-test.true, c.requires.within)) in
    ap₂ (λ a b. (a + b) % 2 ^ 64) (c.loop-row.invariant values is) difference ∙ sum ∙ ap (before_row values strand) (sym (add-one row))

pub returns : goal.returns
returns c = λ values is.
    let row : c.loop-row.row ≡ suc (c.args.place / 16) = omega (arith, c.loop-row-test.false, c.loop-row.auto.row-end) in
    let place : c.args.place / 16 * 16 + c.args.place % 16 ≡ c.args.place = omega arith in
    c.loop-row.invariant values is ∙ ap (before_row values (c.args.place % 16)) row ∙ ap (λ n. get_or values n 0) place
