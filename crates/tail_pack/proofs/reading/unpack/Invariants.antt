-- The values before the place, of each list of which the bytes are the tail.
use Rattle.std.proofs.Common.{◌≡◌, ℕ, List, length, take}
use Rattle.definitions_columns.specs.Tails.{IsPackedTail}
use Rattle.tail_pack.proofs.reading.unpack.Given as goal

abbrev pub invariant-loop-place : goal.invariant-loop-place
invariant-loop-place l = record {
  values : (values : List ℕ) → IsPackedTail l.width values l.bytes → length values ≡ l.count → l.into ≡ take l.place values;
  long : length l.into ≡ l.place;
}
