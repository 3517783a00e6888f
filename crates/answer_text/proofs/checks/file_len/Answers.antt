use Rattle.definitions_columns.proofs.SizeLaws.{IsColumnFile-size}
use Rattle.block_core.specs.Formats.{format_of}
use Rattle.answer_text.proofs.checks.file_len.Goals as goal

pub returns : goal.returns
returns c = IsColumnFile-size (format_of c.args.column.now.format) c.args.column.now.values c.encoded.result.now c.encoded.ensures.file
