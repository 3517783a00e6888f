-- the runs of the values before the place
use Rattle.std.proofs.Common.{◌≡◌, take}
use Rattle.definitions_blocks.specs.Runs.{run_count}
use Rattle.size_chooser.proofs.passes.runs_of.Given as goal

abbrev pub invariant-loop-place : goal.invariant-loop-place
invariant-loop-place l = l.runs ≡ run_count (take l.place l.values)
