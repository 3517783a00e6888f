-- all cells pass exactly if the rest passes from here on
use Rattle.std.proofs.Common.{◌↔◌, map, drop, None}
use Rattle.definitions_blocks.specs.Blocks.{block_values}
use Rattle.run_formats.specs.Cells.{run_in, Passes}
use Rattle.run_formats.proofs.reading.are_runs.Given as goal

abbrev pub invariant-loop-cell : goal.invariant-loop-cell
invariant-loop-cell l = Passes None block_values (map run_in l.cells) ↔ Passes l.before l.left (map run_in (drop l.cell-index l.cells))
