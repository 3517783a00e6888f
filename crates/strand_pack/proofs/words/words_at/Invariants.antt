-- The words before the lane are read.
use Rattle.std.proofs.Common.{◌≡◌, ℕ, ◌+◌, ◌<◌, length, get_or}
use Rattle.definitions_blocks.specs.Words.{word_of}
use Rattle.strand_pack.proofs.words.words_at.Given as goal

abbrev pub invariant-loop-lane : goal.invariant-loop-lane
invariant-loop-lane g l = record { read : (k : ℕ) → k < l.lane → get_or l.words k 0 ≡ word_of l.bytes (l.place + k); long : length l.words ≡ g.row.L }
