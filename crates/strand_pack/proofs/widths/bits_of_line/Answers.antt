use Rattle.std.proofs.Common.{◌+◌, ◌*◌, ap, ◌∙◌, arith}
use Rattle.std.specs.Int.{bit_at}
use Rattle.definitions_blocks.specs.Packed.{word_bit}
use Rattle.strand_pack.proofs.WordBits.{word_of-bit}
use Rattle.strand_pack.proofs.HighestBits.{bit_at-none, line_more}
use Rattle.strand_pack.proofs.widths.bits_of_line.Goals as goal

pub loop-strand-init : goal.loop-strand-init
loop-strand-init c = λ bit within. ((λ _ s below. absurd (omega arith)), (λ _. bit_at-none bit))

pub loop-strand-preserved : goal.loop-strand-preserved
loop-strand-preserved c = λ bit within.
    let packed = c.args.packed.now in
    let place = c.args.line * 16 + c.loop-strand.strand in
    line_more c.loop-strand.all c.word_at-all.result bit (λ s. word_bit packed (c.args.line * 16 + s) bit) c.loop-strand.strand
    (ap (λ n. bit_at n bit) c.word_at-all.ensures ∙ word_of-bit packed place bit (λ k. (c.type_inv.packed k).fits) within)
    (c.loop-strand.invariant bit within)
