use Rattle.std.proofs.Common.{◌∙◌}
use Rattle.run_formats.proofs.CellLaws.{length_read}
use Rattle.run_formats.proofs.cells.length_of.Goals as goal

pub returns : goal.returns
returns c = c.from_le_bytes.ensures ∙ length_read c.args.cell.now
