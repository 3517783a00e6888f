-- A list that is handed to an emitter in pieces: what is taken so far, the next piece, and the rest.
use Rattle.std.proofs.Common.{◌≡◌, ℕ, ◌+◌, ◌*◌, ◌≤◌, Bool, true, List, ◌++◌, length, take, drop, Result, Ok, Err, OnErr, sym, ap, ◌∙◌, subst, arith, length-append}
use Rattle.std.proofs.Math.Nat.{mul-le-mul_left, mul-add}
use Rattle.std.proofs.lemmas.List.{length-take, length-drop}
use Rattle.definitions_blocks.specs.Blocks.{block_values, block_at}
use Rattle.definitions_blocks.specs.Columns.{max_rows}
use Rattle.definitions_operators.specs.Costs.{block_count}
use Rattle.block_core.specs.Emitters.{HoldsOfPrefixes}
use Rattle.block_core.proofs.PrefixLemmas.{front_of}

-- the whole is what was taken, the piece, and some rest
pub record IsPiece (before piece whole : List ℕ) : Type 0 where
  pub rest : List ℕ
  pub joins : whole ≡ (before ++ piece) ++ rest

-- what holds of the whole holds with the piece
pub piece_holds : {S : Type 0} (test : S → List ℕ → Bool) → HoldsOfPrefixes test → (now start : S) → now ≡ start → (before piece whole : List ℕ) → IsPiece before piece whole
    → test start whole ≡ true → test now (before ++ piece) ≡ true
piece_holds {S} test law now start same before piece whole is holds =
    ap (λ (s : S). test s (before ++ piece)) same ∙ law start (before ++ piece) is.rest (ap (test start) (sym is.joins) ∙ holds)

pub piece_few : (before piece whole : List ℕ) → IsPiece before piece whole → length whole ≤ max_rows → length before + length piece ≤ max_rows
piece_few before piece whole is few = omega (arith, ap length is.joins, length-append (before ++ piece) is.rest, length-append before piece)

-- what was taken of the piece is a prefix of the whole
pub piece_prefix : (pushed : List ℕ → Type 0) (n : ℕ) (before piece whole : List ℕ) → IsPiece before piece whole → pushed (before ++ take n piece)
    → (m : ℕ) × pushed (take m whole)
piece_prefix pushed n before piece whole is held =
    (length (before ++ take n piece), subst pushed (front_of n before piece is.rest whole is.joins) held)

pub on_err : {T E P : Type 0} → (r : Result T E) → P → OnErr r P
on_err (Ok value) p = tt
on_err (Err refused) p = p

-- so many values are read with one block more
pub taken-block : (number : ℕ) (values : List ℕ) → length (take ((number + 1) * block_values) values) ≡ length (take (number * block_values) values) + length (block_at values number)
taken-block number values =
    omega (arith, length-take ((number + 1) * block_values) values, length-take (number * block_values) values, length-take block_values (drop (number * block_values) values), length-drop (number * block_values) values)

-- the steps after a block: one for it, and so many for each of its values
pub steps-block : (cost number start before after : ℕ) (values : List ℕ) → before ≤ start + number + cost * length (take (number * block_values) values)
    → after ≤ before + 1 + cost * length (block_at values number) → after ≤ start + (number + 1) + cost * length (take ((number + 1) * block_values) values)
steps-block cost number start before after values so_far here =
    let more : cost * length (take ((number + 1) * block_values) values) ≡ cost * length (take (number * block_values) values) + cost * length (block_at values number)
    = ap (λ n. cost * n) (taken-block number values) ∙ mul-add cost (length (take (number * block_values) values)) (length (block_at values number)) in
    omega arith

pub steps-all : (cost number start after : ℕ) (values : List ℕ) → number ≤ block_count values → after ≤ start + number + cost * length (take (number * block_values) values)
    → after ≤ start + block_count values + cost * length values
steps-all cost number start after values few so_far =
    let short : length (take (number * block_values) values) ≤ length values = omega (arith, length-take (number * block_values) values) in
    omega (arith, mul-le-mul_left cost short)
