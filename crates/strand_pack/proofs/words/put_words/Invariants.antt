-- The words before the lane are written, and nothing beside them.
use Rattle.std.proofs.Common.{◌≡◌, ℕ, ◌+◌, ◌*◌, ◌<◌, ◌≤◌, get_or}
use Rattle.definitions_blocks.specs.Words.{word_of}
use Rattle.strand_pack.proofs.words.put_words.Given as goal

abbrev pub invariant-loop-lane : goal.invariant-loop-lane
invariant-loop-lane g l = record {
  written : (j : ℕ) → j < l.lane → word_of l.into (l.place + j) ≡ get_or l.copied j 0;
  below : (k : ℕ) → k < 8 * l.place → get_or l.into k 0 ≡ get_or l.fn.into k 0;
  above : (k : ℕ) → 8 * (l.place + l.lane) ≤ k → get_or l.into k 0 ≡ get_or l.fn.into k 0;
}
