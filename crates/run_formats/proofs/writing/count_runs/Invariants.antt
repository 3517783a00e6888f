-- the runs so far, and those of the values that are left, are all runs
use Rattle.std.proofs.Common.{◌≡◌, ◌≤◌, ◌+◌, drop}
use Rattle.definitions_blocks.specs.Runs.{run_count, runs_after}
use Rattle.run_formats.proofs.writing.count_runs.Given as goal

abbrev pub invariant-loop-value : goal.invariant-loop-value
invariant-loop-value l = (l.runs ≤ l.value-index + 1) × (l.runs + runs_after l.before (drop l.value-index l.values) ≡ run_count l.values)
