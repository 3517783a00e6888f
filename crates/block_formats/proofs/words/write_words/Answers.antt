use Rattle.std.proofs.Common.{◌+◌, ◌*◌, arith, sym, ◌∙◌, below_more}
use Rattle.strand_pack.proofs.WordBits.{word_of-same}
use Rattle.definitions_blocks.proofs.WordListLaws.{words_of-from_words}
use Rattle.block_formats.proofs.words.write_words.Goals as goal

pub loop-place-preserved : goal.loop-place-preserved
loop-place-preserved c =
    below_more _ _
    (λ i below. word_of-same c.put_word.new.into c.loop-place.into i (λ k byte. c.put_word.ensures.below (8 * i + k) (omega arith)) ∙ c.loop-place.invariant i below)
    c.put_word.ensures.written

pub returns : goal.returns
returns c = sym (words_of-from_words c.args.values.now c.loop-place.into (omega arith) c.bytes_fit.ensures (λ i within. c.loop-place.invariant i (omega arith)))
