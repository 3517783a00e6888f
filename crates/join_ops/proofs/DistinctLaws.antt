-- Values of which a list of distinct keys has one at most.
use Rattle.std.proofs.Common.{◌≡◌, ◌∙◌, ℕ, ◌+◌, ◌-◌, ◌<◌, inl, inr, ◌⊎◌, List, [], ◌∷◌, ◌++◌, length, take, set, ap, ap₂, sym, arith}
use Rattle.std.proofs.lemmas.Bool.{cases_lt}
use Rattle.std.proofs.lemmas.List.{append-nil, take-set, take_more_set}
use Rattle.definitions_operators.specs.Operators.{places_of}
use Rattle.join_ops.specs.Joins.{linked_places}
use Rattle.join_ops.specs.KeyMaps.{IsNextLink}
use Rattle.join_ops.specs.KeySets.{AreDistinct}
use Rattle.join_ops.proofs.JoinLaws.{places_from-link, places_from-all, linked-open}

-- the places of a value are none, or the one that its link names
pub one_key : (keys : List ℕ) (value link : ℕ) → AreDistinct keys → IsNextLink keys value 0 link
    → ((link ≡ 0) × (places_of keys value ≡ [])) ⊎ ((0 < link) × (places_of keys value ≡ (link - 1) ∷ []))
one_key keys value link distinct is =
    let all : places_of keys value ≡ linked_places keys value link = sym (places_from-all keys value) ∙ places_from-link keys value 0 link (omega arith) is in
    elim (cases_lt 0 link) [
      | inl some ↦
          let found = is.here (link - 1) (omega (arith, some)) in
          let none : IsNextLink keys value link 0 = record {
            none = λ e place from upto same. distinct (link - 1) place (omega (arith, some, from)) upto (found.2 ∙ sym same);
            here = λ place e. absurd (omega (arith, e));
            first = λ place from below. absurd (omega (arith, below));
          } in
          inr (some, all ∙ linked-open keys value link some ∙ ap (λ (l : List ℕ). (link - 1) ∷ l) (places_from-link keys value link 0 (omega (arith, found.1, some)) none))
      | inr none ↦
          let at : link ≡ 0 = omega (arith, none) in
          inl (at, all ∙ ap (linked_places keys value) at)
    ]

-- an item that was written behind those kept is kept, or the next one takes its place
pub kept-next : (list front found : List ℕ) (kept more item : ℕ) → kept < length list → take kept list ≡ front → ((more ≡ 0) × (found ≡ [])) ⊎ ((more ≡ 1) × (found ≡ item ∷ []))
    → take (kept + more) (set list kept item) ≡ front ++ found
kept-next list front found kept more item within is one = elim one [
  | inl none ↦
      let at : kept + more ≡ kept = omega (arith, none.0) in
      ap (λ n. take n (set list kept item)) at ∙ take-set list kept item ∙ is ∙ sym (append-nil front) ∙ ap (λ (l : List ℕ). front ++ l) (sym none.1)
  | inr some ↦
      let at : kept + more ≡ kept + 1 = omega (arith, some.0) in
      ap (λ n. take n (set list kept item)) at ∙ take_more_set list kept item within ∙ ap₂ (λ (a b : List ℕ). a ++ b) is (sym some.1)
]
