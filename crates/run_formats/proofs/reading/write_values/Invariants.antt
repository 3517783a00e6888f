-- what is written, and the values of the cells that are left, are the values of all cells
use Rattle.std.proofs.Common.{◌≡◌, ◌≤◌, ◌++◌, length, map, take, drop}
use Rattle.definitions_blocks.specs.Runs.{run_values}
use Rattle.run_formats.specs.Cells.{run_in}
use Rattle.run_formats.proofs.reading.write_values.Given as goal

abbrev pub invariant-loop-cell : goal.invariant-loop-cell
invariant-loop-cell l = (l.place ≤ length l.into) × (take l.place l.into ++ run_values (map run_in (drop l.cell-index l.cells)) ≡ run_values (map run_in l.cells))
