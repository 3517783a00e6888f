use Rattle.std.proofs.Common.{◌≡◌, ℕ, ◌<◌, ◌≤◌, get_or}
use Rattle.dictionary_encoding.proofs.coding.replace.Given as goal

-- the numbers so far are replaced, and the rest is as it was
abbrev pub invariant-loop-number : goal.invariant-loop-number
invariant-loop-number l = record {
  done : (k : ℕ) → k < l.number-index → get_or l.numbers k 0 ≡ get_or l.codes (get_or l.fn.numbers k 0) 0;
  rest : (k : ℕ) → l.number-index ≤ k → get_or l.numbers k 0 ≡ get_or l.fn.numbers k 0;
}
