-- The places of the values that pass a test, a block after the other.
use Rattle.std.proofs.Common.{◌≡◌, ℕ, ◌+◌, ◌*◌, ◌≤◌, Bool, List, ◌++◌, map, length, take, drop, sym, ap, ◌∙◌, arith}
use Rattle.std.proofs.lemmas.List.{take-append-drop}
use Rattle.definitions_blocks.specs.Blocks.{block_values, block_at}
use Rattle.definitions_operators.specs.Operators.{passing_places}
use Rattle.definitions_operators.proofs.PositionLaws.{passing_places-append, passing_places-block}
use Rattle.definitions_operators.proofs.PlaceLaws.{places_where-few}
use Rattle.scan_ops.proofs.EmitLaws.{IsPiece}

pub places-next : (test : ℕ → Bool) (number : ℕ) (values piece : List ℕ) → number * block_values ≤ length values
    → piece ≡ map (λ place. number * block_values + place) (passing_places test (block_at values number))
    → passing_places test (take (number * block_values) values) ++ piece ≡ passing_places test (take ((number + 1) * block_values) values)
places-next test number values piece within is =
    let next : number * block_values + block_values ≡ (number + 1) * block_values = omega arith in
    ap (λ l. passing_places test (take (number * block_values) values) ++ l) is
    ∙ sym (passing_places-block test (number * block_values) block_values values within)
    ∙ ap (λ n. passing_places test (take n values)) next

pub places-piece : (test : ℕ → Bool) (number : ℕ) (values piece : List ℕ) → number * block_values ≤ length values
    → piece ≡ map (λ place. number * block_values + place) (passing_places test (block_at values number))
    → IsPiece (passing_places test (take (number * block_values) values)) piece (passing_places test values)
places-piece test number values piece within is =
    let to = (number + 1) * block_values in
    let rest = map (λ place. length (take to values) + place) (passing_places test (drop to values)) in
    record {
      rest = rest;
      joins = ap (passing_places test) (sym (take-append-drop to values)) ∙ passing_places-append test (take to values) (drop to values)
          ∙ ap (λ l. l ++ rest) (sym (places-next test number values piece within is));
    }

pub places-few : (test : ℕ → Bool) (values : List ℕ) → length (passing_places test values) ≤ length values
places-few test values = places_where-few (λ place. test (Rattle.std.specs.Prelude.slice_index values place)) (length values)
