-- A whole block of a list, and its values.
use Rattle.std.proofs.Common.{◌≡◌, ℕ, ◌+◌, ◌*◌, ◌/◌, ◌%◌, ◌<◌, List, ◌++◌, length, take, drop, get_or, sym, ap, ap₂, ◌∙◌, arith, Result, Ok, Err, OnErr}
use Rattle.std.proofs.lemmas.List.{length-take, length-drop, get_or-take, get_or-drop, take-take, drop-take, take-append-drop}
use Rattle.definitions_blocks.specs.Blocks.{block_values, block_at}

pub length-block_at : (values : List ℕ) (number : ℕ) → number < length values / block_values → length (block_at values number) ≡ block_values
length-block_at values number whole = omega (arith, length-take block_values (drop (number * block_values) values), length-drop (number * block_values) values)

pub block_at-index : (values : List ℕ) (place : ℕ) → get_or (block_at values (place / block_values)) (place % block_values) 0 ≡ get_or values place 0
block_at-index values place =
    let sum : place / block_values * block_values + place % block_values ≡ place = omega arith in
    get_or-take block_values (drop (place / block_values * block_values) values) (place % block_values) 0 (omega arith)
    ∙ get_or-drop (place / block_values * block_values) values (place % block_values) 0 ∙ ap (λ n. get_or values n 0) sum

pub on_err : {T E P : Type 0} → (r : Result T E) → P → OnErr r P
on_err (Ok value) p = tt
on_err (Err refused) p = p

-- the first values, and those that follow them
pub take_blocks : (n m : ℕ) (values : List ℕ) → take n values ++ take m (drop n values) ≡ take (n + m) values
take_blocks n m values = ap₂ (λ (a : List ℕ) (b : List ℕ). a ++ b) (sym (take-take n (n + m) values (omega arith))) (sym (drop-take n m values)) ∙ take-append-drop n (take (n + m) values)
