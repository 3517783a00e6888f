use Rattle.std.proofs.Common.{◌/◌, [], length, arith, ◌∙◌}
use Rattle.strand_pack.proofs.WordBits.{word_read}
use Rattle.strand_pack.proofs.words.word_at.Goals as goal

pub returns : goal.returns
returns c = c.from_le_bytes.ensures ∙ word_read c.args.bytes.now (length c.args.bytes.now / 8) c.args.place [] c.as_chunks.result.0.now c.as_chunks.ensures.front (omega arith)
