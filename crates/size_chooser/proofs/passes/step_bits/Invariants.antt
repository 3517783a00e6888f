-- the bits of the differences before the place
use Rattle.std.proofs.Common.{◌≡◌, take}
use Rattle.definitions_blocks.specs.Differences.{delta1_of}
use Rattle.size_chooser.specs.Surveys.{bits_of}
use Rattle.size_chooser.proofs.passes.step_bits.Given as goal

abbrev pub invariant-loop-place : goal.invariant-loop-place
invariant-loop-place l = l.all ≡ bits_of (delta1_of (take l.place l.values))
