-- The first values of a list that is appended to another.
use Rattle.std.proofs.Common.{◌≡◌, ℕ, ◌+◌, ◌<◌, Bool, true, List, [], ◌∷◌, ◌++◌, length, take, drop, get_or, sym, ap, ◌∙◌, append_assoc, refl, ap₂, arith}
use Rattle.std.proofs.lemmas.List.{take_more, take-append-drop, take-take, drop-take, take_at}
use Rattle.block_core.specs.Emitters.{HoldsOfPrefixes}

-- the first values and the next one
next_of : (n : ℕ) (list values : List ℕ) → n < length values → (list ++ take n values) ++ get_or values n 0 ∷ [] ≡ list ++ take (n + 1) values
next_of n list values within = append_assoc list (take n values) (get_or values n 0 ∷ []) ∙ ap (λ (l : List ℕ). list ++ l) (sym (take_more values n 0 within))

-- what holds of the whole holds of the first values and the next one
pub next_holds : {S : Type 0} (test : S → List ℕ → Bool) → HoldsOfPrefixes test → (now before : S) → now ≡ before → (n : ℕ) (list values : List ℕ) → n < length values
    → test before (list ++ values) ≡ true → test now ((list ++ take n values) ++ get_or values n 0 ∷ []) ≡ true
next_holds {S} test law now before same n list values within holds =
    let whole : (list ++ take (n + 1) values) ++ drop (n + 1) values ≡ list ++ values =
    append_assoc list (take (n + 1) values) (drop (n + 1) values) ∙ ap (λ (l : List ℕ). list ++ l) (take-append-drop (n + 1) values) in
    let front : test before (list ++ take (n + 1) values) ≡ true = law before (list ++ take (n + 1) values) (drop (n + 1) values) (ap (test before) whole ∙ holds) in
    ap (test now) (next_of n list values within) ∙ ap (λ s. test s (list ++ take (n + 1) values)) same ∙ front

-- the first values, and those behind them
pub rest_of : (n : ℕ) (list values : List ℕ) → (list ++ take n values) ++ drop n values ≡ list ++ values
rest_of n list values = append_assoc list (take n values) (drop n values) ∙ ap (λ (l : List ℕ). list ++ l) (take-append-drop n values)

-- the first values, and some of those behind them
pub more_of : (n m : ℕ) (list values : List ℕ) → (list ++ take n values) ++ take m (drop n values) ≡ list ++ take (n + m) values
more_of n m list values =
    let joined : take n values ++ take m (drop n values) ≡ take (n + m) values =
    ap₂ (λ (a : List ℕ) (b : List ℕ). a ++ b) (sym (take-take n (n + m) values (omega arith))) (sym (drop-take n m values)) ∙ take-append-drop n (take (n + m) values) in
    append_assoc list (take n values) (take m (drop n values)) ∙ ap (λ (l : List ℕ). list ++ l) joined

-- what was appended of a part is the front of the whole
pub front_of : (n : ℕ) (list part rest whole : List ℕ) → whole ≡ (list ++ part) ++ rest → list ++ take n part ≡ take (length (list ++ take n part)) whole
front_of n list part rest whole is =
    let taken = list ++ take n part in
    let split : (list ++ part) ++ rest ≡ taken ++ (drop n part ++ rest) =
    ap (λ (l : List ℕ). l ++ rest) (sym (rest_of n list part)) ∙ append_assoc taken (drop n part) rest in
    sym (ap (take (length taken)) (is ∙ split) ∙ take_at taken (drop n part ++ rest) (length taken) refl)
