-- A tally, as values are taken.
use Rattle.std.proofs.Common.{◌≡◌, ℕ, List, [], ◌++◌, length, sym, ap, ◌∙◌, arith, length-append, append_assoc, append-nil}
use Rattle.definitions_blocks.specs.Blocks.{block_values}
use Rattle.size_chooser.specs.Tallies.{IsSplit}

-- more values wait
pub IsSplit-more : {Meter : Type 0} (measured : Meter → List ℕ → Type 0) (waiting new : List ℕ) (meter : Meter) (values more : List ℕ) → IsSplit measured waiting meter values → new ≡ waiting ++ more → IsSplit measured new meter (values ++ more)
IsSplit-more measured waiting new meter values more is added = record {
  blocks = is.blocks;
  whole = is.whole;
  taken = is.taken;
  values_are = ap (λ (l : List ℕ). l ++ more) is.values_are ∙ append_assoc is.blocks waiting more ∙ ap (λ (l : List ℕ). is.blocks ++ l) (sym added);
}

-- what waits is measured, and then none waits
pub IsSplit-close : {Meter : Type 0} (measured : Meter → List ℕ → Type 0) (waiting none : List ℕ) (old new : Meter) (values : List ℕ) → IsSplit measured waiting old values → length waiting ≡ block_values → none ≡ []
    → ((blocks : List ℕ) → measured old blocks → measured new (blocks ++ waiting)) → IsSplit measured none new values
IsSplit-close measured waiting none old new values is full empty adds = record {
  blocks = is.blocks ++ waiting;
  whole = let whole = is.whole in omega (arith, length-append is.blocks waiting);
  taken = adds is.blocks is.taken;
  values_are = is.values_are ∙ sym (append-nil (is.blocks ++ waiting)) ∙ ap (λ (l : List ℕ). (is.blocks ++ waiting) ++ l) (sym empty);
}
