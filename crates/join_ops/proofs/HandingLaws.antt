-- Lists that are handed to an emitter in pieces, and what of them it took.
use Rattle.std.proofs.Common.{◌≡◌, ◌∙◌, ℕ, ◌≤◌, Bool, true, List, ◌++◌, length, take, drop, ap, sym, subst, arith, length-append, append_assoc}
use Rattle.std.proofs.lemmas.List.{take-append-drop}
use Rattle.std.proofs.Math.Seq.{take-append_seam}
use Rattle.definitions_blocks.specs.Columns.{max_rows}
use Rattle.scan_ops.specs.Batches.{HoldsWith}
use Rattle.join_ops.specs.Joins.{IsFrontOf, MayTake, HoldsFront}

-- a test that holds of prefixes holds of a front
pub test_front : (test : List ℕ → Bool) (front whole : List ℕ) → ((front rest : List ℕ) → test (front ++ rest) ≡ true → test front ≡ true) → IsFrontOf front whole
    → test whole ≡ true → test front ≡ true
test_front test front whole law is holds = law front is.rest (subst (λ l. test l ≡ true) (sym is.joins) holds)

pub front_short : (front whole : List ℕ) → IsFrontOf front whole → length front ≤ length whole
front_short front whole is = omega (arith, ap length is.joins, length-append front is.rest)

-- a piece may be handed over if it goes on with a front of a list in scope
pub may_take : (holds : List ℕ → Type 0) (scope : List ℕ → Bool) (before piece whole : List ℕ) → ((front rest : List ℕ) → scope (front ++ rest) ≡ true → scope front ≡ true)
    → holds before → IsFrontOf (before ++ piece) whole → length whole ≤ max_rows → scope whole ≡ true → MayTake holds scope piece
may_take holds scope before piece whole law held front few in_scope = record {
  list = before;
  held = held;
  few = omega (arith, front_short (before ++ piece) whole front, length-append before piece, few);
  in_scope = test_front scope (before ++ piece) whole law front in_scope;
}

-- a front of a front
pub IsFrontOf-more : (front part whole : List ℕ) → IsFrontOf front part → IsFrontOf part whole → IsFrontOf front whole
IsFrontOf-more front part whole first second = record {
  rest = first.rest ++ second.rest;
  joins = sym (append_assoc front first.rest second.rest) ∙ ap (λ (l : List ℕ). l ++ second.rest) first.joins ∙ second.joins;
}

-- what an emitter took of a piece is a front of the whole
pub front_kept : (pushed : List ℕ → Type 0) (part whole : List ℕ) → HoldsFront pushed part → IsFrontOf part whole → HoldsFront pushed whole
front_kept pushed part whole kept is = record {
  front = kept.front;
  held = kept.held;
  is_front = IsFrontOf-more kept.front part whole kept.is_front is;
}

-- what was taken, of a list of which the rest waits
pub front_held : (pushed : List ℕ → Type 0) (waiting list : List ℕ) → HoldsWith pushed waiting list → HoldsFront pushed list
front_held pushed waiting list holds = record {
  front = holds.taken;
  held = holds.held;
  is_front = record { rest = waiting; joins = holds.joins };
}

pub front_taken : (pushed : List ℕ → Type 0) (n : ℕ) (list : List ℕ) → pushed (take n list) → HoldsFront pushed list
front_taken pushed n list held = record {
  front = take n list;
  held = held;
  is_front = record { rest = drop n list; joins = take-append-drop n list };
}

-- a front is a prefix of some length
pub front_prefix : (pushed : List ℕ → Type 0) (whole : List ℕ) → HoldsFront pushed whole → (n : ℕ) × pushed (take n whole)
front_prefix pushed whole kept =
    (length kept.front, subst pushed (sym (take-append_seam kept.front kept.is_front.rest) ∙ ap (take (length kept.front)) kept.is_front.joins) kept.held)
