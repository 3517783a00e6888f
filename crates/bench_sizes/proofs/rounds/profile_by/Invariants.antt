-- the values so far were taken
use Rattle.std.proofs.Common.{◌≤◌, ◌-◌, length, take}
use Rattle.size_chooser.specs.Profiles.{IsProfileOf}
use Rattle.bench_sizes.proofs.rounds.profile_by.Given as goal

abbrev pub invariant-loop-taken : goal.invariant-loop-taken
invariant-loop-taken l = record {
  within : l.taken ≤ length l.values;
  profile : IsProfileOf l.profile (take l.taken l.values);
}

abbrev pub decreases-loop-taken : goal.decreases-loop-taken
decreases-loop-taken l = length l.values - l.taken
