use Rattle.std.proofs.Common.{arith, ◌∙◌}
use Rattle.run_formats.proofs.Writes.{values_more}
use Rattle.run_formats.proofs.reading.write_values.Goals as goal

pub loop-cell-preserved : goal.loop-cell-preserved
loop-cell-preserved c =
    values_more c.args.cells.now c.loop-cell.cell-index c.loop-cell.place c.from-length.result c.value_of.result c.loop-cell.into c.write_run.new.into
    c.loop-cell-test.true c.loop-cell.invariant.0 (omega arith) c.loop-cell.invariant.1 (c.from-length.ensures ∙ c.length_of.ensures) c.value_of.ensures c.write_run.ensures.kept c.write_run.ensures.front
