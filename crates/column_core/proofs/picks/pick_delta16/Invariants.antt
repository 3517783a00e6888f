-- what was added up is the strand's value before the row
use Rattle.std.proofs.Common.{◌≡◌, List, ℕ}
use Rattle.definitions_blocks.specs.Differences.{delta16_of, first_of}
use Rattle.definitions_blocks.specs.Encodings.{IsDynamicBlock, IsCascade}
use Rattle.column_core.proofs.BlockLemmas.{before_row}
use Rattle.column_core.proofs.picks.pick_delta16.Given as goal

abbrev pub invariant-loop-row : goal.invariant-loop-row
invariant-loop-row l = (values : List ℕ) → IsCascade first_of delta16_of IsDynamicBlock values l.bytes → l.value ≡ before_row values l.strand l.row
