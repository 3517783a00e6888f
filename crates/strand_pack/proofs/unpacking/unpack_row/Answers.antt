use Rattle.std.proofs.Common.{◌+◌, ◌-◌, ◌*◌, ◌/◌, ◌%◌, ◌^◌, length, get_or, bit_and, bit_or, refl, sym, ap, ◌∙◌, arith}
use Rattle.std.proofs.lemmas.List.{get_or-replicate}
use Rattle.definitions_blocks.specs.Words.{word_of}
use Rattle.strand_pack.specs.Words.{value_in}
use Rattle.strand_pack.proofs.Fields.{mask_of}
use Rattle.strand_pack.proofs.Values.{value_in-none, value_from_one, value_from_two}
use Rattle.strand_pack.proofs.unpacking.unpack_row.Goals as goal

pub returns-then-width-eq0-clause-values : goal.returns-then-width-eq0-clause-values
returns-then-width-eq0-clause-values g c = λ strand within.
    let zeros = c.fill.ensures.after (λ y same. same) in
    ap (λ l. get_or l strand 0) zeros ∙ get_or-replicate (length c.args.into.now) strand 0 0 (omega arith)
    ∙ sym (value_in-none c.args.bytes.now c.args.row strand) ∙ ap (λ w. value_in c.args.bytes.now w c.args.row strand) (sym c.if-width-eq0.true)

pub returns-then-offset-width-le-WORD_BITS-clause-values : goal.returns-then-offset-width-le-WORD_BITS-clause-values
returns-then-offset-width-le-WORD_BITS-clause-values g c = λ strand within.
    let start = c.args.row * c.args.width in
    c.row_from_one.ensures.values strand within
    ∙ ap (λ m. bit_and (word_of c.args.bytes.now (start / 64 * 16 + strand) / 2 ^ (start % 64)) m) (mask_of c.args.width _ c.requires.narrow refl)
    ∙ value_from_one c.args.bytes.now c.args.width c.args.row strand (omega arith)

pub returns-else-offset-width-le-WORD_BITS-clause-values : goal.returns-else-offset-width-le-WORD_BITS-clause-values
returns-else-offset-width-le-WORD_BITS-clause-values g c = λ strand within.
    let start = c.args.row * c.args.width in
    c.row_from_two.ensures.values strand within
    ∙ ap (λ m. bit_and (bit_or (word_of c.args.bytes.now (start / 64 * 16 + strand) / 2 ^ (start % 64)) (word_of c.args.bytes.now (start / 64 * 16 + 16 + strand) * 2 ^ (64 - start % 64) % 2 ^ 64)) m) (mask_of c.args.width _ c.requires.narrow refl)
    ∙ value_from_two c.args.bytes.now c.args.width c.args.row strand (λ k. (c.type_inv.bytes k).fits) c.requires.narrow (omega arith)
