use Rattle.std.proofs.Common.{ap, length, arith}
use Rattle.definitions_blocks.specs.Encodings.{IsPlainBlock}
use Rattle.definitions_blocks.proofs.PlainLaws.{IsPlainBlock-size}
use Rattle.block_formats.proofs.plain_blocks.WordsPacking.encode.Goals as goal

pub write_words-requires : goal.write_words-requires
write_words-requires c =
    let bytes = c.requires.encoded.0 in
    let is : IsPlainBlock c.args.full.now bytes = c.requires.encoded.1 in
    omega (arith, IsPlainBlock-size c.args.full.now bytes is, is.full.whole, ap length c.as_slice.ensures.values, c.requires.encoded.2)
