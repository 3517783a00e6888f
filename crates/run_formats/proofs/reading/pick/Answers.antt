use Rattle.std.proofs.Common.{◌≡◌, length, map, get_or, ap, ◌∙◌, arith}
use Rattle.definitions_blocks.specs.Runs.{run_values}
use Rattle.run_formats.specs.Cells.{run_in}
use Rattle.run_formats.proofs.FrontLaws.{FrontRuns, block_runs, block_values_in_cells}
use Rattle.run_formats.proofs.reading.pick.Goals as goal

pub run_count_in-requires : goal.run_count_in-requires
run_count_in-requires c =
    let front : FrontRuns c.requires.encoded.0 c.args.bytes.now = block_runs c.requires.encoded.0 c.args.bytes.now c.requires.encoded.1 in
    omega (arith, front.size)

pub cells_of-requires : goal.cells_of-requires
cells_of-requires c =
    let front : FrontRuns c.requires.encoded.0 c.args.bytes.now = block_runs c.requires.encoded.0 c.args.bytes.now c.requires.encoded.1 in
    omega (arith, front.size, c.run_count_in.ensures)

-- the cells that were read have the block's values
pub value_at-requires : goal.value_at-requires
value_at-requires c =
    let values = c.requires.encoded.0 in
    let is = c.requires.encoded.1 in
    let front : FrontRuns values c.args.bytes.now = block_runs values c.args.bytes.now is in
    let same : run_values (map run_in c.cells_of.result.now) ≡ values =
    block_values_in_cells values c.args.bytes.now c.run_count_in.result c.cells_of.result.now is (c.run_count_in.ensures ∙ front.headed) c.cells_of.ensures in
    omega (arith, ap length same, is.full.whole, c.requires.within)

pub returns : goal.returns
returns c = λ values is.
    let front : FrontRuns values c.args.bytes.now = block_runs values c.args.bytes.now is in
    let same : run_values (map run_in c.cells_of.result.now) ≡ values =
    block_values_in_cells values c.args.bytes.now c.run_count_in.result c.cells_of.result.now is (c.run_count_in.ensures ∙ front.headed) c.cells_of.ensures in
    c.value_at.ensures ∙ ap (λ list. get_or list c.args.place 0) same
