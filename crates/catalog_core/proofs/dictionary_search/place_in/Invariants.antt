use Rattle.std.proofs.Common.{◌≡◌, ◌<◌, ◌≤◌, ◌-◌, ℕ, true, false, [], length, get_or}
use Rattle.catalog_core.specs.Indexed.{texts_at}
use Rattle.catalog_core.specs.DictionarySearch.{is_counted}
use Rattle.catalog_core.proofs.dictionary_search.place_in.Given as goal

-- the texts before `low` come before the text, and those from `high` on do not
abbrev pub invariant-loop-low : goal.invariant-loop-low
invariant-loop-low l = record {
  ordered : l.low ≤ l.high;
  within : l.high ≤ length l.starts;
  below : (k : ℕ) → k < l.low → is_counted l.through l.text (get_or (texts_at l.bytes l.starts) k []) ≡ true;
  above : (k : ℕ) → l.high ≤ k → k < length (texts_at l.bytes l.starts) → is_counted l.through l.text (get_or (texts_at l.bytes l.starts) k []) ≡ false;
}

abbrev pub decreases-loop-low : goal.decreases-loop-low
decreases-loop-low l = l.high - l.low
