use Rattle.std.proofs.Common.{ap, length, arith}
use Rattle.definitions_blocks.proofs.PlainLaws.{IsPlainBlock-size}
use Rattle.block_formats.proofs.plain_blocks.WordsPacking.decode.Goals as goal

pub read_words-requires : goal.read_words-requires
read_words-requires c = omega (arith, IsPlainBlock-size c.requires.values c.args.bytes.now c.requires.encoded, c.fill.ensures.length, ap length c.as_mut_slice.ensures.value)
