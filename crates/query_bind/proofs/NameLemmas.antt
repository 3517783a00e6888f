-- A map of names by its entries.
use Rattle.std.proofs.Common.{◌≡◌, ℕ, Bool, true, false, List, [], ◌∷◌, ◌++◌, Option, Some, None, Bor, refl, cond, true≢false}
use Rattle.std.specs.Prelude.{option_map, is_some}
use Rattle.std.specs.List.{find}
use Rattle.std.specs.Map.{lookup}
use Rattle.std.specs.Str.{bytes_eq}
use Rattle.std.proofs.lemmas.List.{map-append}
use Rattle.query_bind.specs.NameMaps.{entries_of, value_of}

abbrev key_is : List ℕ → Bor (List ℕ) → Bool
key_is name key = bytes_eq name key.now

-- looking a name up among the entries
pub lookup_is : {V : Type 0} (name : List ℕ) (entries : List (Bor (List ℕ) × V)) → lookup (key_is name) entries ≡ value_of (entries_of entries) name
lookup_is name [] = refl
lookup_is {V} name (entry ∷ more) = here (bytes_eq name entry.0.now) (lookup_is name more) where
  here : (found : Bool) → lookup (key_is name) more ≡ value_of (entries_of more) name → cond found (Some entry.1) (lookup (key_is name) more)
      ≡ option_map (λ (one : List ℕ × V). one.1) (cond found (Some (entry.0.now, entry.1)) (find (λ one. bytes_eq name one.0) (entries_of more)))
  here true behind = refl
  here false behind = behind

-- one more entry
pub entries_more : {V : Type 0} (entries : List (Bor (List ℕ) × V)) (key : Bor (List ℕ)) (value : V)
    → entries_of (entries ++ (key, value) ∷ []) ≡ entries_of entries ++ (key.now, value) ∷ []
entries_more {V} entries key value = map-append (λ (entry : Bor (List ℕ) × V). (entry.0.now, entry.1)) entries ((key, value) ∷ [])

-- nothing is found
pub none_there : {A : Type 0} (o : Option A) → is_some o ≡ false → o ≡ None
none_there None e = refl
none_there (Some a) e = absurd (true≢false e)
