-- Lemmas on known bytes that several reads or writes change in turn.
use Rattle.std.proofs.Common.{ℕ, ◌+◌, ◌≤◌, List, ◌++◌, length, take, Option, Some, None, Result, Ok, Err, sym, ap, ◌∙◌, append_assoc, length-append}
use Rattle.std.proofs.lemmas.List.{length-take-le}
use Rattle.std.specs.Prelude.{OnErr}
use Rattle.std.specs.Io.KnownBytes.{Appends, Consumes}
use Rattle.stream_core.specs.Calls.{ConsumesSome}

-- what two reads took, one after the other
pub Consumes-append : (a b c : Option (List ℕ)) (first second : List ℕ) → Consumes a b first → Consumes b c second → Consumes a c (first ++ second)
Consumes-append None b c first second p q = tt
Consumes-append (Some x) None c first second p q = absurd p
Consumes-append (Some x) (Some y) None first second p q = absurd q
Consumes-append (Some x) (Some y) (Some z) first second p q = p ∙ ap (λ l. first ++ l) q ∙ sym (append_assoc first second z)

-- what two writes added, one after the other
pub Appends-append : (a b c : Option (List ℕ)) (first second : List ℕ) → Appends a b first → Appends b c second → Appends a c (first ++ second)
Appends-append None b c first second p q = tt
Appends-append (Some x) None c first second p q = absurd p
Appends-append (Some x) (Some y) None first second p q = absurd q
Appends-append (Some x) (Some y) (Some z) first second p q = q ∙ ap (λ l. l ++ second) p ∙ append_assoc x first second

-- a fact that holds anyway holds of an error
pub OnErr-always : {T E P : Type 0} (r : Result T E) → P → OnErr r P
OnErr-always (Ok x) p = tt
OnErr-always (Err e) p = p

-- how many bytes were read, once a read gave the front of a buffer
pub ConsumesSome-read : (a b c : Option (List ℕ)) (text buffer : List ℕ) (count : ℕ) → Consumes a b text → Consumes b c (take count buffer) → count ≤ length buffer
    → ConsumesSome a c (length text + count)
ConsumesSome-read a b c text buffer count before now within =
    (text ++ take count buffer, Consumes-append a b c text (take count buffer) before now, length-append text (take count buffer) ∙ ap (λ n. length text + n) (length-take-le count buffer within))
