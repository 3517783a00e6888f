-- The first blocks of a list, and the next one.
use Rattle.std.proofs.Common.{◌≡◌, ℕ, ◌+◌, ◌*◌, ◌≤◌, Bool, true, List, ◌++◌, length, take, drop, Result, Ok, Err, OnErr, sym, ap, ap₂, ◌∙◌, subst, arith}
use Rattle.std.proofs.lemmas.List.{take-append-drop, take-take, drop-take, length-take, length-drop}
use Rattle.definitions_blocks.specs.Blocks.{block_values, block_at}
use Rattle.block_core.specs.Emitters.{HoldsOfPrefixes}
use Rattle.block_core.proofs.PrefixLemmas.{front_of}

-- the blocks so far and the next one
pub block_more : (values block : List ℕ) (number : ℕ) → block ≡ block_at values number → take (number * block_values) values ++ block ≡ take ((number + 1) * block_values) values
block_more values block number is =
    let place = number * block_values in
    let sum : place + block_values ≡ (number + 1) * block_values = omega arith in
    ap (λ (l : List ℕ). take place values ++ l) is
    ∙ ap₂ (λ (a : List ℕ) (b : List ℕ). a ++ b) (sym (take-take place (place + block_values) values (omega arith))) (sym (drop-take place block_values values))
    ∙ take-append-drop place (take (place + block_values) values) ∙ ap (λ n. take n values) sum

-- how many values they are
pub length-block_more : (values block : List ℕ) (number : ℕ) → block ≡ block_at values number → length (take (number * block_values) values) + length block ≤ length values
length-block_more values block number is =
    omega (
      arith,
      length-take (number * block_values) values,
      ap length is,
      length-take block_values (drop (number * block_values) values),
      length-drop (number * block_values) values,
    )

-- what holds of the list holds of its first blocks, also where the state is said otherwise
pub holds_of_front : {S : Type 0} (test : S → List ℕ → Bool) → HoldsOfPrefixes test → (now before : S) → now ≡ before → (values block : List ℕ) (number : ℕ) → block ≡ block_at values number
    → test before values ≡ true → test now (take (number * block_values) values ++ block) ≡ true
holds_of_front {S} test law now before same values block number is holds =
    let front = take ((number + 1) * block_values) values in
    let all : test before (front ++ drop ((number + 1) * block_values) values) ≡ true = ap (test before) (take-append-drop ((number + 1) * block_values) values) ∙ holds in
    ap (test now) (block_more values block number is) ∙ ap (λ s. test s front) same ∙ law before front (drop ((number + 1) * block_values) values) all

-- the first of what was appended is the front of the list
pub front_is : (values block : List ℕ) (number taken : ℕ) → block ≡ block_at values number → take (number * block_values) values ++ take taken block ≡ take (length (take (number * block_values) values ++ take taken block)) values
front_is values block number taken is =
    let all : values ≡ (take (number * block_values) values ++ block) ++ drop ((number + 1) * block_values) values =
    sym (ap (λ (l : List ℕ). l ++ drop ((number + 1) * block_values) values) (block_more values block number is) ∙ take-append-drop ((number + 1) * block_values) values) in
    front_of taken (take (number * block_values) values) block (drop ((number + 1) * block_values) values) values all

pub on_err : {T E P : Type 0} → (r : Result T E) → P → OnErr r P
on_err (Ok value) p = tt
on_err (Err refused) p = p
