-- what is written, and the cells of the runs that are left, are the cells of all runs
use Rattle.std.proofs.Common.{◌≡◌, ◌≤◌, ◌++◌, flat_map, length, take, drop}
use Rattle.definitions_blocks.specs.Runs.{run_bytes}
use Rattle.definitions_blocks.proofs.RunListLaws.{runs_from, runs_of}
use Rattle.run_formats.proofs.writing.put_runs.Given as goal

abbrev pub invariant-loop-next : goal.invariant-loop-next
invariant-loop-next l = (l.length ≤ l.next-index) × (l.place ≤ length l.into)
    × (take l.place l.into ++ flat_map run_bytes (runs_from l.value l.length (drop l.next-index l.values)) ≡ flat_map run_bytes (runs_of l.values))
