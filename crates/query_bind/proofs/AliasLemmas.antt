-- One more alias, in the tree and in the list.
use Rattle.std.proofs.Common.{◌≡◌, ℕ, Bool, true, false, List, [], ◌∷◌, ◌++◌, Option, Some, None, Bor, refl, sym, ap, ◌∙◌, cond}
use Rattle.std.specs.BTreeMap.{BTreeMap, UpdatesBy}
use Rattle.std.specs.Ordering.{nat_cmp}
use Rattle.std.specs.Cmp.Lexicographic.{slice_cmp}
use Rattle.std.specs.Str.{bytes_eq}
use Rattle.std.proofs.lemmas.Map.Text.{btree_map_updates_str}
use Rattle.std.proofs.lemmas.Slice.Eq.{bytes_eq-Decides}
use Rattle.query_bind.specs.Aliases.{HasNumbers}
use Rattle.query_bind.specs.NameMaps.{value_of, is_among}
use Rattle.query_bind.proofs.IndexLemmas.{or_last, value_of-last}
use Rattle.query_bind.proofs.NameLemmas.{none_there}

-- a new name has the last entry, and another one what it had
same_as_last : (found : Option ℕ) (number : ℕ) (same : Bool) → (same ≡ true → found ≡ None) → cond same (Some number) found ≡ or_last found same number
same_as_last (Some other) number true new = absurd (cc (new refl))
same_as_last None number true new = refl
same_as_last (Some other) number false new = refl
same_as_last None number false new = refl

symmetric : (name other : List ℕ) → bytes_eq name other ≡ bytes_eq other name
symmetric name other = by (bytes_eq name other) refl (bytes_eq other name) refl where
  by : (one : Bool) → bytes_eq name other ≡ one → (two : Bool) → bytes_eq other name ≡ two → one ≡ two
  by true e true f = refl
  by false e false f = refl
  by true e false f = sym ((bytes_eq-Decides other name).1 (sym ((bytes_eq-Decides name other).0 e))) ∙ f
  by false e true f = sym e ∙ (bytes_eq-Decides name other).1 (sym ((bytes_eq-Decides other name).0 f))

pub numbers_more : (before after : BTreeMap (Bor (List ℕ)) ℕ) (names : List (List ℕ × ℕ)) (name : List ℕ) (number : ℕ) → HasNumbers before names → is_among names name ≡ false
    → UpdatesBy (λ x y. slice_cmp nat_cmp x.now y.now) (λ key. slice_cmp nat_cmp name key.now) before after (Some number) → HasNumbers after (names ++ (name, number) ∷ [])
numbers_more before after names name number has new updates other =
    btree_map_updates_str name before after (Some number) updates other
    ∙ ap (λ found. cond (bytes_eq name other) (Some number) found) (has other)
    ∙ ap (λ same. cond same (Some number) (value_of names other)) (symmetric name other)
    ∙ same_as_last (value_of names other) number (bytes_eq other name) (λ same. rw ((bytes_eq-Decides other name).0 same) (none_there (value_of names name) new))
    ∙ sym (value_of-last names other name number)
