-- the bits of the differences before the place
use Rattle.std.proofs.Common.{◌≡◌, take}
use Rattle.definitions_blocks.specs.Differences.{delta16_of}
use Rattle.size_chooser.specs.Surveys.{bits_of}
use Rattle.size_chooser.proofs.passes.first_gap_bits.Given as goal

abbrev pub invariant-loop-place : goal.invariant-loop-place
invariant-loop-place l = l.all ≡ bits_of (delta16_of (take l.place l.values))
