-- the runs of the differences before the place
use Rattle.std.proofs.Common.{◌≡◌, take}
use Rattle.definitions_blocks.specs.Differences.{delta1_of}
use Rattle.definitions_blocks.specs.Runs.{run_count}
use Rattle.size_chooser.proofs.passes.step_runs_of.Given as goal

abbrev pub invariant-loop-place : goal.invariant-loop-place
invariant-loop-place l = l.runs ≡ run_count (delta1_of (take l.place l.values))
