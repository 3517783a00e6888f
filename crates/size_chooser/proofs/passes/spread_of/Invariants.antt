-- the least and the greatest of the values before the place
use Rattle.std.proofs.Common.{◌≡◌, take}
use Rattle.definitions_blocks.specs.Differences.{least_of}
use Rattle.size_chooser.specs.Surveys.{greatest_of}
use Rattle.size_chooser.proofs.passes.spread_of.Given as goal

abbrev pub invariant-loop-place : goal.invariant-loop-place
invariant-loop-place l = record {
  least : l.low ≡ least_of (take l.place l.values);
  greatest : l.high ≡ greatest_of (take l.place l.values);
}
