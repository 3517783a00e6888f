-- The search for a name that stands twice, one name at a time.
use Rattle.std.proofs.Common.{◌≡◌, ◌||◌, cond, ◌<◌, ◌+◌, ◌∙◌, Bool, true, false, ℕ, List, [], Some, Bor, refl, sym, ap, length, get_or, map, take, drop}
use Rattle.std.specs.List.{list_any}
use Rattle.std.specs.Str.{bytes_eq}
use Rattle.std.proofs.lemmas.List.{take-map, take_more, get_or-map, length-map}
use Rattle.std.proofs.lemmas.List.Folds.{list_any_more}
use Rattle.catalog_core.specs.Texts.{Text}
use Rattle.catalog_core.specs.Schemas.{first_repeated}
use Rattle.catalog_core.proofs.MemberLemmas.{list_any-map}
use Rattle.definitions_outcomes.proofs.ComputedLaws.{items_from}

or_last : (last before : Bool) → cond last true before ≡ (before || last)
or_last true true = refl
or_last true false = refl
or_last false true = refl
or_last false false = refl

module _ (names : List (Bor Text)) (place : ℕ) (name : Bor Text) (within : place < length names) (is : name ≡ get_or names place name) where
  stands : (b : Bool) → list_any (λ other. bytes_eq other.now name.now) (take place names) ≡ b
      → list_any (λ other. bytes_eq other name.now) (take place (map (λ (one : Bor Text). one.now) names)) ≡ b
  stands b found = rw (take-map (λ (one : Bor Text). one.now) place names) (list_any-map (λ other. bytes_eq other name.now) (λ (one : Bor Text). one.now) (take place names) ∙ found)

  pub repeats : list_any (λ other. bytes_eq other.now name.now) (take place names) ≡ true
      → first_repeated [] (map (λ one. one.now) names) ≡ first_repeated (take place (map (λ one. one.now) names)) (drop place (map (λ one. one.now) names))
      → first_repeated [] (map (λ one. one.now) names) ≡ Some name.now
  repeats found so_far =
      so_far ∙ rw (items_from (λ (one : Bor Text). one.now) names place name within is, stands true found) refl

  pub goes_on : list_any (λ other. bytes_eq other.now name.now) (take place names) ≡ false
      → first_repeated [] (map (λ one. one.now) names) ≡ first_repeated (take place (map (λ one. one.now) names)) (drop place (map (λ one. one.now) names))
      → first_repeated [] (map (λ one. one.now) names) ≡ first_repeated (take (place + 1) (map (λ one. one.now) names)) (drop (place + 1) (map (λ one. one.now) names))
  goes_on none so_far =
      let here : get_or (map (λ (one : Bor Text). one.now) names) place name.now ≡ name.now = get_or-map (λ (one : Bor Text). one.now) names place name name.now within ∙ ap (λ (one : Bor Text). one.now) (sym is) in
      let more = take_more (map (λ (one : Bor Text). one.now) names) place name.now (rw (length-map names (λ (one : Bor Text). one.now)) within) in
      so_far ∙ rw (items_from (λ (one : Bor Text). one.now) names place name within is, stands false none, more, here) refl

  -- one more name was seen
  pub seen_more : (text : Text) → cond (bytes_eq name.now text) true (list_any (λ other. bytes_eq other.now text) (take place names))
      ≡ list_any (λ other. bytes_eq other.now text) (take (place + 1) names)
  seen_more text =
      let test : Bor Text → Bool = λ other. bytes_eq other.now text in
      rw (list_any_more test names place name within, ← is) (or_last (bytes_eq name.now text) (list_any test (take place names)))
