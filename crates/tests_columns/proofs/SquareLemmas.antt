-- The squares of the first numbers stand in front of those of more.
use Rattle.std.proofs.Common.{◌≡◌, ℕ, ◌+◌, ◌-◌, ◌*◌, ◌≤◌, zero, suc, Bool, true, List, [], ◌∷◌, ◌++◌, length, take, Result, Ok, Err, OnErr, refl, sym, ap, ◌∙◌, append_assoc, arith, length-append}
use Rattle.std.proofs.lemmas.List.{append-nil, take_at}
use Rattle.block_core.specs.Emitters.{HoldsOfPrefixes}
use Rattle.tests_columns.specs.Squares.{squares}

pub length-squares : (n : ℕ) → length (squares n) ≡ n
length-squares zero = refl
length-squares (suc n) = omega (arith, length-append (squares n) (n * n ∷ []), length-squares n)

-- as many more numbers, and what stands behind the squares of the first
behind : (more n : ℕ) → (rest : List ℕ) × (squares (more + n) ≡ squares n ++ rest)
behind zero n = let none : zero + n ≡ n = omega arith in ([], ap squares none ∙ sym (append-nil (squares n)))
behind (suc more) n =
    let first = behind more n in
    let next = (more + n) * (more + n) ∷ [] in
    let one_more : suc more + n ≡ suc (more + n) = omega arith in
    (first.0 ++ next, ap squares one_more ∙ ap (λ (list : List ℕ). list ++ next) first.1 ∙ append_assoc (squares n) first.0 next)

front : (n below : ℕ) → n ≤ below → (rest : List ℕ) × (squares below ≡ squares n ++ rest)
front n below few =
    let found = behind (below - n) n in
    let all : below ≡ (below - n) + n = omega (arith, few) in
    (found.0, ap squares all ∙ found.1)

pub take-squares : (n below : ℕ) → n ≤ below → squares n ≡ take n (squares below)
take-squares n below few =
    let found = front n below few in
    sym (ap (take n) found.1 ∙ take_at (squares n) found.0 n (length-squares n))

-- what holds of the squares of all numbers holds of those of the first
pub holds_of_first : {S : Type 0} (test : S → List ℕ → Bool) → HoldsOfPrefixes test → (now before : S) → now ≡ before → (n below : ℕ) → n ≤ below
    → test before (squares below) ≡ true → test now (squares n) ≡ true
holds_of_first {S} test law now before same n below few holds =
    let found = front n below few in
    let first : test before (squares n) ≡ true = law before (squares n) found.0 (ap (test before) (sym found.1) ∙ holds) in
    ap (λ state. test state (squares n)) same ∙ first

pub on_err : {T E P : Type 0} → (r : Result T E) → P → OnErr r P
on_err (Ok value) p = tt
on_err (Err refused) p = p
