use Rattle.std.proofs.Common.{sym}
use Rattle.definitions_blocks.proofs.PlainLaws.{IsPlainBlock-size}
use Rattle.block_formats.proofs.plain_blocks.WordsPacking.byte_len.Goals as goal

pub returns : goal.returns
returns c = λ bytes is. sym (IsPlainBlock-size is.values bytes is.encoded)
