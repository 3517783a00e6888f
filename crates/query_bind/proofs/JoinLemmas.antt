-- The tables of FROM with their names, one by one: the joins to dimensions, and the fact table.
use Rattle.std.proofs.Common.{◌≡◌, ◌<◌, ◌≤◌, ℕ, ◌+◌, Bool, true, false, List, [], ◌∷◌, length, get_or, drop, filter, refl, sym, map, drop_of_length-le, true≢false}
use Rattle.std.specs.Prelude.{Option, Some, None, is_some, Result, Ok, Err}
use Rattle.std.specs.List.{zip}
use Rattle.definitions_queries.specs.Queries.{Word}
use Rattle.query_bind.specs.Binding.{only_fact}
use Rattle.query_bind.specs.declared.errors.BindError.{BindError}
use Rattle.query_bind.specs.declared.errors.BindError.TheVariants as refusal
use Rattle.query_bind.proofs.PlaceLemmas.{next_named, zip_past}

-- ---- a filter of the tables from one on

module _ {X : Type 0} (see : X → Word) (xs : List X) (tables : List ℕ) (i : ℕ) (x : X) (table : ℕ) (within : i < length xs) (within_too : i < length tables)
    (is : x ≡ get_or xs i x) (is_too : table ≡ get_or tables i table) (test : Word × ℕ → Bool) where
  pub skipped : test (see x, table) ≡ false → filter test (drop i (zip (map see xs) tables)) ≡ filter test (drop (i + 1) (zip (map see xs) tables))
  skipped fails = rw (next_named see xs tables i x table within within_too is is_too, fails) refl

  pub taken : test (see x, table) ≡ true → filter test (drop i (zip (map see xs) tables)) ≡ (see x, table) ∷ filter test (drop (i + 1) (zip (map see xs) tables))
  taken passes = rw (next_named see xs tables i x table within within_too is is_too, passes) refl

pub nothing_left : {X : Type 0} (see : X → Word) (xs : List X) (tables : List ℕ) (i : ℕ) (test : Word × ℕ → Bool) → length tables ≤ i → filter test (drop i (zip (map see xs) tables)) ≡ []
nothing_left see xs tables i test past = rw (drop_of_length-le (zip (map see xs) tables) {i = i} (zip_past (map see xs) tables i past)) refl

-- ---- the fact table

-- what the fact tables that are left make of the one so far
abbrev pub goes_on : List Word → Option ℕ → List (Word × ℕ) → Result ℕ BindError
goes_on words None left = only_fact words left
goes_on words (Some fact) [] = Ok fact
goes_on words (Some fact) (second ∷ more) = Err (refusal.FactCount second.0.at)

pub first_found : (words : List Word) (fact : Option ℕ) (word : Word) (table : ℕ) (left : List (Word × ℕ)) → is_some fact ≡ false
    → goes_on words fact ((word, table) ∷ left) ≡ goes_on words (Some table) left
first_found words (Some fact) word table left none = absurd (true≢false none)
first_found words None word table [] none = refl
first_found words None word table (second ∷ more) none = refl

pub second_refused : (words : List Word) (fact : Option ℕ) (word : Word) (table : ℕ) (left : List (Word × ℕ)) → is_some fact ≡ true
    → goes_on words fact ((word, table) ∷ left) ≡ Err (refusal.FactCount word.at)
second_refused words (Some fact) word table left some = refl
second_refused words None word table left some = absurd (true≢false (sym some))
