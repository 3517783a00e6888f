-- Lemmas on digits and on the front of a text.
use Rattle.std.proofs.Common.{◌≡◌, ℕ, ◌+◌, ◌*◌, ◌-◌, ◌<◌, ◌≤◌, Bool, true, zero, suc, List, [], ◌∷◌, length, take, get_or, ap, ◌∙◌, arith}
use Rattle.std.proofs.lemmas.List.{length-take, get_or-take}
use Rattle.std.proofs.lemmas.List.Sums.{prefix_len_passes}
use Rattle.std.specs.List.{prefix_len}
use Rattle.definitions_queries.specs.Lexing.{front, value_from}

-- digits after a value make it no smaller
value_from-le : (digits : List ℕ) (value : ℕ) → value ≤ value_from value digits
value_from-le [] value = omega arith
value_from-le (digit ∷ digits) value = omega (arith, value_from-le digits (value * 10 + (digit - 48)))

-- the value of all the digits is at least that of some and the next
pub value_of-more : (digits : List ℕ) (before : ℕ) (count : ℕ) → count < length digits → value_from before (take count digits) * 10 + (get_or digits count 0 - 48) ≤ value_from before digits
value_of-more [] before count within = absurd (omega arith)
value_of-more (digit ∷ digits) before zero within = value_from-le digits (before * 10 + (digit - 48))
value_of-more (digit ∷ digits) before (suc count) within = value_of-more digits (before * 10 + (digit - 48)) count (omega arith)

-- the bytes at the front of a text pass the test
pub front_passes : (test : ℕ → Bool) (text : List ℕ) (k d : ℕ) → k < length (front test text) → test (get_or (front test text) k d) ≡ true
front_passes test text k d within =
    let short : k < prefix_len test text = omega (arith, length-take (prefix_len test text) text) in
    ap test (get_or-take (prefix_len test text) text k d short) ∙ prefix_len_passes test text k d short
