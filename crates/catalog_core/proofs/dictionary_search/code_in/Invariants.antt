use Rattle.std.proofs.Common.{◌≡◌, ◌<◌, ◌≤◌, ◌-◌, ℕ, true, [], length, get_or}
use Rattle.catalog_core.specs.Texts.{is_below}
use Rattle.catalog_core.specs.Indexed.{texts_at}
use Rattle.catalog_core.proofs.dictionary_search.code_in.Given as goal

-- the texts before `low` are less than the text, and those from `high` on are greater
abbrev pub invariant-loop-low : goal.invariant-loop-low
invariant-loop-low l = record {
  ordered : l.low ≤ l.high;
  within : l.high ≤ length l.starts;
  below : (k : ℕ) → k < l.low → is_below (get_or (texts_at l.bytes l.starts) k []) l.text ≡ true;
  above : (k : ℕ) → l.high ≤ k → k < length (texts_at l.bytes l.starts) → is_below l.text (get_or (texts_at l.bytes l.starts) k []) ≡ true;
}

abbrev pub decreases-loop-low : goal.decreases-loop-low
decreases-loop-low l = l.high - l.low
