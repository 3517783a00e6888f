-- Names with a value each.
use Rattle.std.specs.Prelude.{◌≡◌, ℕ, List, [], ◌∷◌, ◌++◌, Option, option_map, map, Bool, is_some, if◌then◌else◌}
use Rattle.std.specs.Borrow.{Bor}
use Rattle.std.specs.List.{find}
use Rattle.std.specs.Str.{bytes_eq}

module _ {V : Type 0} where
  -- the names that a map has, with their values
  abbrev pub entries_of : List (Bor (List ℕ) × V) → List (List ℕ × V)
  entries_of entries = map (λ entry. (entry.0.now, entry.1)) entries

  -- the value of a name, if it is one of the names
  abbrev pub value_of : List (List ℕ × V) → List ℕ → Option V
  value_of names name = option_map (λ entry. entry.1) (find (λ entry. bytes_eq name entry.0) names)

  abbrev pub is_among : List (List ℕ × V) → List ℕ → Bool
  is_among names name = is_some (value_of names name)

  -- the names with one more, unless it is there
  abbrev pub with_name : List (List ℕ × V) → List ℕ → V → List (List ℕ × V)
  with_name names name value = if is_among names name then names else names ++ (name, value) ∷ []

  abbrev pub Adds : List (List ℕ × V) → List ℕ → V → List (List ℕ × V) → Type 0
  Adds before name value after = after ≡ with_name before name value
