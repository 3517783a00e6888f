-- The columns of a schema by name, as they are added one by one.
use Rattle.std.proofs.Common.{◌≡◌, ◌<◌, ℕ, ◌+◌, Bool, true, false, Option, Some, None, List, [], ◌∷◌, ◌++◌, length, get_or, take, refl, ap, sym, ◌∙◌, cond, true≢false}
use Rattle.std.specs.Prelude.{option_map, is_some}
use Rattle.std.specs.List.{find}
use Rattle.std.specs.Str.{bytes_eq}
use Rattle.std.proofs.lemmas.Slice.Eq.{bytes_eq-Decides}
use Rattle.std.proofs.lemmas.List.{take_more}
use Rattle.query_bind.specs.NameMaps.{value_of, is_among, with_name}

-- the first that has the name, of those that are done, or the one behind them
abbrev pub or_last : {V : Type 0} → Option V → Bool → V → Option V
or_last (Some found) same value = Some found
or_last None true value = Some value
or_last None false value = None

pub value_of-last : {V : Type 0} (names : List (List ℕ × V)) (name other : List ℕ) (value : V)
    → value_of (names ++ (other, value) ∷ []) name ≡ or_last (value_of names name) (bytes_eq name other) value
value_of-last {V} [] name other value = here (bytes_eq name other) where
  here : (same : Bool) → option_map (λ (entry : List ℕ × V). entry.1) (cond same (Some (other, value)) None) ≡ or_last None same value
  here true = refl
  here false = refl
value_of-last {V} (entry ∷ more) name other value = here (bytes_eq name entry.0) (value_of-last more name other value) where
  here : (found : Bool) → value_of (more ++ (other, value) ∷ []) name ≡ or_last (value_of more name) (bytes_eq name other) value
      → option_map (λ (one : List ℕ × V). one.1) (cond found (Some entry) (find (λ one. bytes_eq name one.0) (more ++ (other, value) ∷ [])))
      ≡ or_last (option_map (λ (one : List ℕ × V). one.1) (cond found (Some entry) (find (λ one. bytes_eq name one.0) more))) (bytes_eq name other) value
  here true behind = refl
  here false behind = behind

-- a name that is there already keeps its value
there : {V : Type 0} (names : List (List ℕ × V)) (name other : List ℕ) (value : V) → is_among names other ≡ true → (same : Bool) → bytes_eq name other ≡ same
    → (found : Option V) → value_of names name ≡ found → found ≡ or_last found same value
there names name other value among same is (Some v) e = refl
there names name other value among false is None e = refl
there names name other value among true is None e =
    let equal = (bytes_eq-Decides name other).0 is in
    absurd (true≢false (sym among ∙ ap (λ one. is_some (value_of names one)) (sym equal) ∙ ap is_some e))

pub value_of-with_name : {V : Type 0} (names : List (List ℕ × V)) (name other : List ℕ) (value : V)
    → value_of (with_name names other value) name ≡ or_last (value_of names name) (bytes_eq name other) value
value_of-with_name {V} names name other value = by (is_among names other) refl where
  by : (among : Bool) → is_among names other ≡ among → value_of (cond among names (names ++ (other, value) ∷ [])) name ≡ or_last (value_of names name) (bytes_eq name other) value
  by true e = there names name other value e (bytes_eq name other) refl (value_of names name) refl
  by false e = value_of-last names name other value

find-last : {V : Type 0} (test : V → Bool) (done : List V) (value : V) → find test (done ++ value ∷ []) ≡ or_last (find test done) (test value) value
find-last test [] value = here (test value) where
  here : (same : Bool) → cond same (Some value) None ≡ or_last None same value
  here true = refl
  here false = refl
find-last test (one ∷ more) value = here (test one) (find-last test more value) where
  here : (found : Bool) → find test (more ++ value ∷ []) ≡ or_last (find test more) (test value) value
      → cond found (Some one) (find test (more ++ value ∷ [])) ≡ or_last (cond found (Some one) (find test more)) (test value) value
  here true behind = refl
  here false behind = behind

-- one more is added
pub added : {V : Type 0} (name_of : V → List ℕ) (all : List V) (i : ℕ) (value : V) (names : List (List ℕ × V)) → i < length all → value ≡ get_or all i value
    → ((name : List ℕ) → value_of names name ≡ find (λ one. bytes_eq name (name_of one)) (take i all))
    → (name : List ℕ) → value_of (with_name names (name_of value) value) name ≡ find (λ one. bytes_eq name (name_of one)) (take (i + 1) all)
added name_of all i value names within is so_far name =
    value_of-with_name names name (name_of value) value
    ∙ ap (λ found. or_last found (bytes_eq name (name_of value)) value) (so_far name)
    ∙ sym (find-last (λ one. bytes_eq name (name_of one)) (take i all) value)
    ∙ ap (find (λ one. bytes_eq name (name_of one))) (sym (take_more all i value within ∙ ap (λ one. take i all ++ one ∷ []) (sym is)))
