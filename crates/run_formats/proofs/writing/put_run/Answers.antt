use Rattle.std.proofs.Common.{◌++◌, ap, ◌∙◌, length, ap₂}
use Rattle.definitions_blocks.specs.Words.{word_bytes}
use Rattle.definitions_blocks.specs.Runs.{two_bytes}
use Rattle.run_formats.proofs.Writes.{both_parts}
use Rattle.run_formats.proofs.writing.put_run.Goals as goal

pub returns : goal.returns
unfolding word_bytes two_bytes
returns c =
    let front = c.copy_from_slice.ensures.after ∙ c.to_le_bytes.ensures in
    let back = c.copy_from_slice-2.ensures.after ∙ c.to_le_bytes-2.ensures in
    both_parts 8 c.args.into.now c.copy_from_slice.new.self c.copy_from_slice-2.new.self (ap length front) ∙ ap₂ (λ a b. a ++ b) front back
