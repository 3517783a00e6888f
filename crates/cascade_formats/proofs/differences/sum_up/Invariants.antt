-- What is summed, and the sums of the rest from here, are the sums.
use Rattle.std.proofs.Common.{◌≡◌, [], ◌∷◌, ◌++◌, take, drop}
use Rattle.definitions_blocks.proofs.LaggedSumLaws.{sums_of}
use Rattle.cascade_formats.proofs.differences.sum_up.Given as goal

abbrev pub invariant-loop-value : goal.invariant-loop-value
invariant-loop-value l = take l.value-index l.block ++ sums_of (drop l.value-index l.block) (l.sum ∷ []) ≡ sums_of l.fn.block (l.base ∷ [])
