use Rattle.std.proofs.Common.{arith, ◌∙◌}
use Rattle.run_formats.proofs.FrontLaws.{FrontRuns, block_runs}
use Rattle.run_formats.proofs.run_blocks.RunsPacking.head_in.Goals as goal

pub run_count_in-requires : goal.run_count_in-requires
run_count_in-requires c =
    let front : FrontRuns c.requires.0 c.args.bytes.now = block_runs c.requires.0 c.args.bytes.now c.requires.1 in
    omega (arith, front.size)

pub returns : goal.returns
returns c = λ values is.
    let front : FrontRuns values c.args.bytes.now = block_runs values c.args.bytes.now is in
    c.run_count_in.ensures ∙ front.headed
