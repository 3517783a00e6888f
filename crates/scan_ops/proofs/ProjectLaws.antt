-- Values at places, a block after the other.
use Rattle.std.proofs.Common.{◌≡◌, ◌∙◌, ap, ap₂, sym, ℕ, ◌+◌, ◌*◌, ◌<◌, List, ◌++◌, All, length, get_or, take, drop, arith, subst}
use Rattle.std.proofs.lemmas.List.{map-append, length-map, length-take, length-drop, get_or-take, get_or-drop, take-append-drop, take-take, drop-take}
use Rattle.definitions_blocks.specs.Blocks.{block_values, block_at}
use Rattle.definitions_operators.specs.Operators.{values_at}
use Rattle.scan_ops.proofs.EmitLaws.{IsPiece}

-- the values before a block and those of the block
pub take-next : (number : ℕ) (items : List ℕ) → take (number * block_values) items ++ block_at items number ≡ take ((number + 1) * block_values) items
take-next number items =
    let at = number * block_values in
    let next : at + block_values ≡ (number + 1) * block_values = omega arith in
    ap₂ (λ (l r : List ℕ). l ++ r) (sym (take-take at (at + block_values) items (omega arith))) (sym (drop-take at block_values items))
    ∙ take-append-drop at (take (at + block_values) items) ∙ ap (λ n. take n items) next

-- what holds of all items holds of a block's
pub All-block : (P : ℕ → Type 0) (number : ℕ) (items : List ℕ) → All P items → All P (block_at items number)
All-block P number items all = λ k d within.
    let early : k < block_values = omega (arith, length-take block_values (drop (number * block_values) items)) in
    let same : get_or (block_at items number) k d ≡ get_or items (number * block_values + k) d =
    get_or-take block_values (drop (number * block_values) items) k d early ∙ get_or-drop (number * block_values) items k d in
    subst P (sym same) (all (number * block_values + k) d (omega (arith, length-take block_values (drop (number * block_values) items), length-drop (number * block_values) items)))

pub values_at-next : (values : List ℕ) (number : ℕ) (places piece : List ℕ) → piece ≡ values_at values (block_at places number)
    → values_at values (take (number * block_values) places) ++ piece ≡ values_at values (take ((number + 1) * block_values) places)
values_at-next values number places piece is =
    ap (λ l. values_at values (take (number * block_values) places) ++ l) is
    ∙ sym (map-append (λ place. get_or values place 0) (take (number * block_values) places) (block_at places number)) ∙ ap (values_at values) (take-next number places)

pub values_at-piece : (values : List ℕ) (number : ℕ) (places piece : List ℕ) → piece ≡ values_at values (block_at places number)
    → IsPiece (values_at values (take (number * block_values) places)) piece (values_at values places)
values_at-piece values number places piece is =
    let to = (number + 1) * block_values in
    let rest = values_at values (drop to places) in
    record {
      rest = rest;
      joins = ap (values_at values) (sym (take-append-drop to places)) ∙ map-append (λ place. get_or values place 0) (take to places) (drop to places)
          ∙ ap (λ l. l ++ rest) (sym (values_at-next values number places piece is));
    }

pub length-values_at : (values places : List ℕ) → length (values_at values places) ≡ length places
length-values_at values places = length-map places (λ place. get_or values place 0)
