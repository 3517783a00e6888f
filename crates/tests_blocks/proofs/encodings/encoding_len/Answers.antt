use Rattle.block_core.specs.Formats.{format_of}
use Rattle.definitions_blocks.proofs.BlockLaws.{BlockOf-encoding}
use Rattle.tests_blocks.proofs.encodings.encoding_len.Goals as goal

pub block_len-requires : goal.block_len-requires
block_len-requires c = BlockOf-encoding (format_of c.args.format) c.args.width c.args.full.now c.requires.lawful c.requires.full c.requires.fits
