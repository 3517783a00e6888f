-- Cells that are handed to an emitter a block at a time: what is taken so far, the next piece, and the rest.
use Rattle.std.proofs.Common.{◌≡◌, ℕ, ◌+◌, ◌*◌, ◌≤◌, Bool, true, List, ◌++◌, length, take, drop, Result, Ok, Err, OnErr, sym, ap, ◌∙◌, subst, arith, length-append}
use Rattle.std.proofs.lemmas.List.{take-append-drop}
use Rattle.definitions_blocks.specs.Blocks.{block_values, block_at}
use Rattle.definitions_blocks.specs.Columns.{max_rows}
use Rattle.block_core.specs.Emitters.{HoldsOfPrefixes}
use Rattle.block_core.proofs.PrefixLemmas.{front_of}
use Rattle.sum_ops.proofs.CellLaws.{take_block}

-- the whole is what was taken, the piece, and some rest
pub record IsPiece (before piece whole : List ℕ) : Type 0 where
  pub rest : List ℕ
  pub joins : whole ≡ (before ++ piece) ++ rest

-- what holds of the whole holds with the piece
pub piece_holds : {S : Type 0} (test : S → List ℕ → Bool) → HoldsOfPrefixes test → (now start : S) → now ≡ start → (before piece whole : List ℕ) → IsPiece before piece whole
    → test start whole ≡ true → test now (before ++ piece) ≡ true
piece_holds {S} test law now start same before piece whole is holds =
    ap (λ (s : S). test s (before ++ piece)) same ∙ law start (before ++ piece) is.rest (ap (test start) (sym is.joins) ∙ holds)

pub piece_few : (before piece whole : List ℕ) → IsPiece before piece whole → length whole ≤ max_rows → length before + length piece ≤ max_rows
piece_few before piece whole is few = omega (arith, ap length is.joins, length-append (before ++ piece) is.rest, length-append before piece)

-- what was taken of the piece is a prefix of the whole
pub piece_prefix : (pushed : List ℕ → Type 0) (n : ℕ) (before piece whole : List ℕ) → IsPiece before piece whole → pushed (before ++ take n piece)
    → (m : ℕ) × pushed (take m whole)
piece_prefix pushed n before piece whole is held =
    (length (before ++ take n piece), subst pushed (front_of n before piece is.rest whole is.joins) held)

pub on_err : {T E P : Type 0} → (r : Result T E) → P → OnErr r P
on_err (Ok value) p = tt
on_err (Err refused) p = p

pub block-piece : (number : ℕ) (values piece : List ℕ) → piece ≡ block_at values number → IsPiece (take (number * block_values) values) piece values
block-piece number values piece is =
    let to = (number + 1) * block_values in
    record {
      rest = drop to values;
      joins = sym (take-append-drop to values)
          ∙ ap (λ (front : List ℕ). front ++ drop to values) (sym (ap (λ (l : List ℕ). take (number * block_values) values ++ l) is ∙ take_block values number));
    }
