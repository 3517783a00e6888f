use Rattle.std.proofs.Common.{◌∙◌}
use Rattle.run_formats.proofs.CellLaws.{value_read}
use Rattle.run_formats.proofs.cells.value_of.Goals as goal

pub returns : goal.returns
returns c = c.from_le_bytes.ensures ∙ value_read c.args.cell.now c.as_chunks.result.0.now c.as_chunks.ensures.front c.told-cell
