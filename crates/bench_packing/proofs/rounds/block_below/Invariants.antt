use Rattle.std.proofs.Common.{◌≡◌, length}
use Rattle.definitions_blocks.specs.Packed.{AreBelow}
use Rattle.bench_packing.proofs.rounds.block_below.Given as goal

-- one value for each place so far, each narrow enough
abbrev pub invariant-loop-place : goal.invariant-loop-place
invariant-loop-place l = record { count : length l.block ≡ l._place; small : AreBelow l.width l.block }
