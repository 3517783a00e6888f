-- The law of an emitter's scope and room.
use Rattle.std.specs.Prelude.{◌≡◌, ℕ, Bool, true, List, ◌++◌}

-- A test that holds of a list's prefixes if it holds of the list.
abbrev pub HoldsOfPrefixes : {S : Type 0} → (S → List ℕ → Bool) → Type 0
HoldsOfPrefixes {S} test = (state : S) (list rest : List ℕ) → test state (list ++ rest) ≡ true → test state list ≡ true
