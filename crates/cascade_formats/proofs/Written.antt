-- What is written behind a word, and over a block.
use Rattle.std.proofs.Common.{◌≡◌, ℕ, ◌+◌, ◌-◌, ◌≤◌, List, [], ◌++◌, take, drop, length, ap, ap₂, ◌∙◌, arith, length-append}
use borrow.Rule.Slice.PartMut.{post_of}
use Rattle.std.specs.List.{refill}
use Rattle.std.proofs.lemmas.List.{take_at, drop_all, append-nil, length-drop}
use Rattle.definitions_blocks.specs.Encodings.{IsCascade}
use Rattle.definitions_blocks.proofs.CascadeLaws.{IsCascade-size}

-- the encoding of a cascade has a word
pub cascade_long : (base_of : List ℕ → ℕ) (differences_of : List ℕ → List ℕ) (encodes : List ℕ → List ℕ → Type 0) (values bytes into : List ℕ) → IsCascade base_of differences_of encodes values bytes → length into ≡ length bytes → 8 ≤ length into
cascade_long base_of differences_of encodes values bytes into is same = omega (arith, IsCascade-size base_of differences_of encodes values bytes is)

-- a word, and the rest written after it
pub written_after : (whole word inner rest : List ℕ) → length word ≡ 8 → whole ≡ word ++ rest → take 8 whole ++ (inner ++ post_of 8 (length whole - 8) whole) ≡ word ++ inner
written_after whole word inner rest eight e =
    let long : length whole ≡ length word + length rest = ap length e ∙ length-append word rest in
    let none : drop (length whole - 8) (drop 8 whole) ≡ [] = drop_all (length whole - 8) (drop 8 whole) (omega (arith, length-drop 8 whole)) in
    ap₂ (λ a b. a ++ (inner ++ b)) (ap (take 8) e ∙ take_at word rest 8 eight) none ∙ ap (λ l. word ++ l) (append-nil inner)

-- what is written back over as many values
pub refill_is : (n : ℕ) (before written : List ℕ) → length written ≡ n → refill n before written ≡ written
refill_is n before written same = take_at written _ n same
