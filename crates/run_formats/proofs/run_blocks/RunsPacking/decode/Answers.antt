use Rattle.std.proofs.Common.{◌≡◌, ◌++◌, length, take, drop, map, sym, ap, ◌∙◌, subst, arith}
use Rattle.std.proofs.lemmas.List.{take_at}
use Rattle.definitions_blocks.specs.Runs.{run_values, IsRunsBlock}
use Rattle.run_formats.specs.Cells.{run_in}
use Rattle.run_formats.proofs.FrontLaws.{FrontRuns, block_runs, block_values_in_cells}
use Rattle.run_formats.proofs.run_blocks.RunsPacking.decode.Goals as goal

pub cells_of-requires : goal.cells_of-requires
cells_of-requires c =
    let front : FrontRuns c.requires.values c.args.bytes.now = block_runs c.requires.values c.args.bytes.now c.requires.encoded in
    omega (arith, front.size, front.headed, c.requires.headed)

pub write_values-requires : goal.write_values-requires
write_values-requires c =
    let read : run_values (map run_in c.cells_of.result.now) ≡ c.requires.values =
    block_values_in_cells c.requires.values c.args.bytes.now c.args.runs c.cells_of.result.now c.requires.encoded c.requires.headed c.cells_of.ensures in
    ap length c.as_mut_slice.ensures.value ∙ c.fill.ensures.length ∙ sym (ap length read ∙ c.requires.encoded.full.whole)

pub returns : goal.returns
returns c =
    let read : c.write_values.new.into ≡ c.requires.values =
    c.write_values.ensures ∙ block_values_in_cells c.requires.values c.args.bytes.now c.args.runs c.cells_of.result.now c.requires.encoded c.requires.headed c.cells_of.ensures in
    let written = c.write_values.new.into in
    let long : length written ≡ length c.fill.new.self = ap length read ∙ c.requires.encoded.full.whole ∙ sym c.fill.ensures.length in
    let kept : take (length c.fill.new.self) (written ++ drop (length written) c.fill.new.self) ≡ c.requires.values =
    take_at written (drop (length written) c.fill.new.self) (length c.fill.new.self) long ∙ read in
    subst (λ values. IsRunsBlock values c.args.bytes.now) (sym kept) c.requires.encoded
