-- the value that is asked for stands in the cells that are left, so many places on
use Rattle.std.proofs.Common.{◌≡◌, ◌<◌, length, map, drop}
use Rattle.std.specs.Prelude.{slice_index}
use Rattle.definitions_blocks.specs.Runs.{run_values}
use Rattle.run_formats.specs.Cells.{run_in}
use Rattle.run_formats.proofs.reading.value_at.Given as goal

abbrev pub invariant-loop-cell : goal.invariant-loop-cell
invariant-loop-cell l =
    (l.left < length (run_values (map run_in (drop l.cell-index l.cells))))
    × (slice_index (run_values (map run_in (drop l.cell-index l.cells))) l.left ≡ slice_index (run_values (map run_in l.cells)) l.place)
