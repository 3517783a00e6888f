use Rattle.std.proofs.Common.{◌≡◌, map, sym, ap, ◌∙◌, subst, arith}
use Rattle.definitions_blocks.specs.Runs.{AreRunsOf}
use Rattle.run_formats.specs.Cells.{count_in, run_in, cells_in}
use Rattle.run_formats.proofs.FrontLaws.{FrontRuns, block_runs}
use Rattle.run_formats.proofs.pairs.RunIter.new.Goals as goal

pub run_count_in-requires : goal.run_count_in-requires
run_count_in-requires c =
    let front : FrontRuns c.requires.0 c.args.bytes.now = block_runs c.requires.0 c.args.bytes.now c.requires.1 in
    omega (arith, front.size)

pub cells_of-requires : goal.cells_of-requires
cells_of-requires c =
    let front : FrontRuns c.requires.0 c.args.bytes.now = block_runs c.requires.0 c.args.bytes.now c.requires.1 in
    omega (arith, front.size, c.run_count_in.ensures)

pub returns : goal.returns
returns c = λ values is.
    let cells : c.cells_of.result.now ≡ cells_in (count_in c.args.bytes.now) c.args.bytes.now = c.cells_of.ensures ∙ ap (λ n. cells_in n c.args.bytes.now) c.run_count_in.ensures in
    let front : FrontRuns values c.args.bytes.now = block_runs values c.args.bytes.now is in
    subst (λ list. AreRunsOf (map run_in list) values) (sym cells) front.are
