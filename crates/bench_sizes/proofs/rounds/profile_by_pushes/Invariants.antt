-- the values so far were pushed
use Rattle.std.proofs.Common.{take}
use Rattle.size_chooser.specs.Profiles.{IsProfileOf}
use Rattle.bench_sizes.proofs.rounds.profile_by_pushes.Given as goal

abbrev pub invariant-loop-value : goal.invariant-loop-value
invariant-loop-value l = IsProfileOf l.profile (take l.value-index l.values)
