-- A list that is handed to an emitter in pieces: what was taken so far, the next piece, and the rest.
use Rattle.std.proofs.Common.{◌≡◌, ℕ, ◌+◌, ◌*◌, ◌≤◌, Bool, true, List, ◌++◌, length, take, drop, Result, Ok, Err, OnErr, sym, ap, ap₂, ◌∙◌, subst, refl, arith, length-append}
use Rattle.std.proofs.lemmas.List.{length-take, length-drop, take_at, take-append-drop, take-take, drop-take}
use Rattle.definitions_blocks.specs.Blocks.{block_values, block_at}
use Rattle.definitions_blocks.specs.Columns.{max_rows}
use Rattle.block_core.specs.Emitters.{HoldsOfPrefixes}
use Rattle.block_core.proofs.PrefixLemmas.{front_of}

-- a piece may be handed over if it goes on with the front of a list in scope
pub may_extend : {F : Type 0} (pushed : List ℕ → Type 0) (scope : F → List ℕ → Bool) → HoldsOfPrefixes scope → (now start : F) → now ≡ start
    → (before piece next more whole : List ℕ) → pushed before → before ++ piece ≡ next → next ++ more ≡ whole → length whole ≤ max_rows → scope start whole ≡ true
    → (list : List ℕ) × pushed list × (length list + length piece ≤ max_rows) × (scope now (list ++ piece) ≡ true)
may_extend {F} pushed scope law now start same before piece next more whole held goes_on joins few in_scope = (
  before,
  held,
  omega (arith, few, ap length joins, ap length goes_on, length-append next more, length-append before piece),
  ap₂ (λ (frame : F) (list : List ℕ). scope frame list) same goes_on ∙ law start next more (ap (scope start) joins ∙ in_scope),
)

-- a front that was taken is the first so many of the whole
pub front_taken : (pushed : List ℕ → Type 0) (front more whole : List ℕ) → pushed front → front ++ more ≡ whole → (n : ℕ) × pushed (take n whole)
front_taken pushed front more whole held joins =
    (length front, subst pushed (sym (ap (take (length front)) (sym joins) ∙ take_at front more (length front) refl)) held)

-- and so it is with some of the piece
pub piece_taken : (pushed : List ℕ → Type 0) (n : ℕ) (before piece next more whole : List ℕ) → pushed (before ++ take n piece) → before ++ piece ≡ next → next ++ more ≡ whole
    → (n : ℕ) × pushed (take n whole)
piece_taken pushed n before piece next more whole held goes_on joins =
    let is : whole ≡ (before ++ piece) ++ more = sym joins ∙ ap (λ (list : List ℕ). list ++ more) (sym goes_on) in
    (length (before ++ take n piece), subst pushed (front_of n before piece more whole is) held)

pub on_err : {T E P : Type 0} → (r : Result T E) → P → OnErr r P
on_err (Ok value) p = tt
on_err (Err refused) p = p

-- the values before a block and those of the block
pub take-next : {A : Type 0} (number : ℕ) (items : List A) → take (number * block_values) items ++ take block_values (drop (number * block_values) items) ≡ take ((number + 1) * block_values) items
take-next {A} number items =
    let at = number * block_values in
    let next : at + block_values ≡ (number + 1) * block_values = omega arith in
    ap₂ (λ (l r : List A). l ++ r) (sym (take-take at (at + block_values) items (omega arith))) (sym (drop-take at block_values items))
    ∙ take-append-drop at (take (at + block_values) items) ∙ ap (λ n. take n items) next

-- so many values are read with one block more
pub taken-block : (number : ℕ) (values : List ℕ) → length (take ((number + 1) * block_values) values) ≡ length (take (number * block_values) values) + length (block_at values number)
taken-block number values =
    omega (arith, length-take ((number + 1) * block_values) values, length-take (number * block_values) values, length-take block_values (drop (number * block_values) values), length-drop (number * block_values) values)
