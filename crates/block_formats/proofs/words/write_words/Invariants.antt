-- The values before the place are written.
use Rattle.std.proofs.Common.{◌≡◌, ℕ, ◌<◌, get_or}
use Rattle.definitions_blocks.specs.Words.{word_of}
use Rattle.block_formats.proofs.words.write_words.Given as goal

abbrev pub invariant-loop-place : goal.invariant-loop-place
invariant-loop-place l = (i : ℕ) → i < l.place → word_of l.into i ≡ get_or l.values i 0
