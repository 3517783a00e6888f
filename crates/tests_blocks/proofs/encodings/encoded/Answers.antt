use Rattle.std.proofs.Common.{◌∙◌}
use Rattle.block_core.specs.Formats.{format_of}
use Rattle.definitions_blocks.proofs.BlockLaws.{BlockOf-encoding}
use Rattle.tests_blocks.proofs.encodings.encoded.Goals as goal

pub encode_block-requires : goal.encode_block-requires
encode_block-requires g c =
    let encoding = BlockOf-encoding (format_of c.args.format) c.args.width c.args.full.now c.requires.lawful c.requires.full c.requires.fits in (
      encoding.0,
      encoding.1,
      c.as_mut_slice.ensures.len ∙ c.in_ok-bytes.ensures.len ∙ c.encoding_len.ensures encoding.0 encoding.1,
    )
