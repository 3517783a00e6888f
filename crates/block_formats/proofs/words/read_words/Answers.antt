use Rattle.std.proofs.Common.{◌/◌, [], length, arith, sym, ◌∙◌, below_more, get_or-set_same, get_or-set_other}
use Rattle.strand_pack.proofs.WordBits.{word_read}
use Rattle.definitions_blocks.proofs.WordListLaws.{words_of-from_words, words_by_words}
use Rattle.block_formats.proofs.words.read_words.Goals as goal

pub loop-place-preserved : goal.loop-place-preserved
loop-place-preserved c =
    let bytes = c.args.bytes.now in
    let into = c.loop-place.into in
    let place = c.loop-place.place in
    below_more _ _
    (λ i below. c.loop-place.invariant i below ∙ sym (get_or-set_other into place i c.from_le_bytes.result 0 (omega arith)))
    (sym (get_or-set_same into place c.from_le_bytes.result 0 (omega arith) ∙ c.from_le_bytes.ensures ∙ word_read bytes (length bytes / 8) place [] c.as_chunks.result.0.now c.as_chunks.ensures.front (omega arith)))

pub returns-clause-encoded : goal.returns-clause-encoded
returns-clause-encoded c =
    sym (words_of-from_words c.loop-place.into c.args.bytes.now (omega arith) (λ k. (c.type_inv.bytes k).fits) (λ i within. c.loop-place.invariant i (omega arith)))

pub returns-clause-words : goal.returns-clause-words
returns-clause-words c = words_by_words c.loop-place.into c.args.bytes.now (λ k. (c.type_inv.bytes k).fits) (λ i within. c.loop-place.invariant i (omega arith))
