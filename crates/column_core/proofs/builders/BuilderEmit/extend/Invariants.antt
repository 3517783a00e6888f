-- the first values were taken
use Rattle.std.proofs.Common.{◌≡◌, ◌≤◌, ◌-◌, ◌++◌, length, take}
use Rattle.column_core.specs.Columns.{encoding_of}
use Rattle.column_core.proofs.builders.BuilderEmit.extend.Given as goal

abbrev pub invariant-loop-taken : goal.invariant-loop-taken
invariant-loop-taken l = record {
  within : l.taken ≤ length l.values;
  builder : l.self ≡ encoding_of l.fn.self.format l.fn.self.width l.fn.self.reserve (l.fn.self.values ++ take l.taken l.values);
}

abbrev pub decreases-loop-taken : goal.decreases-loop-taken
decreases-loop-taken l = length l.values - l.taken
