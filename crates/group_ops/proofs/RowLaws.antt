-- One row more: its number, its place if its pair is new, and the pairs that are then seen.
use Rattle.std.proofs.Common.{◌≡◌, ℕ, ◌+◌, ◌≤◌, Bool, true, false, cond, not, List, [], ◌∷◌, ◌++◌, length, refl, sym, ap, ap₂, ◌∙◌, arith, length-append}
use Rattle.std.specs.List.{list_any, fold}
use Rattle.std.proofs.lemmas.Bool.{false≢true}
use Rattle.std.proofs.lemmas.List.{append-nil}
use Rattle.definitions_operators.specs.Groups.{with_item}
use Rattle.definitions_operators.proofs.GroupWords.{numbers_from, new_place, new_places}
use Rattle.definitions_operators.proofs.NumberingLaws.{ids_step, extents_step, seen_step, length-new_place}
use Rattle.group_ops.specs.Pairs.{same_pair, number_in}

-- what is handed over with a fresh pair, and with one that was seen
pub fresh_place : (seen fresh : Bool) (list : List ℕ) (place : ℕ) → fresh ≡ not seen → fresh ≡ true → list ++ place ∷ [] ≡ list ++ cond seen [] (place ∷ [])
fresh_place true fresh list place is here = absurd (false≢true (sym is ∙ here))
fresh_place false fresh list place is here = refl

pub seen_place : (seen fresh : Bool) (list : List ℕ) (place : ℕ) → fresh ≡ not seen → fresh ≡ false → list ≡ list ++ cond seen [] (place ∷ [])
seen_place true fresh list place is here = sym (append-nil list)
seen_place false fresh list place is here = absurd (false≢true (sym here ∙ is))

module _ (seen next : List (ℕ × ℕ)) (items : List (ℕ × ℕ)) (item : ℕ × ℕ) (rest : List (ℕ × ℕ)) (splits : items ≡ item ∷ rest) (adds : next ≡ with_item same_pair seen item) where
  pub row_ids : (list new : List ℕ) (number : ℕ) (whole : List ℕ) → new ≡ list ++ number ∷ [] → number ≡ number_in seen item → list ++ numbers_from same_pair seen items ≡ whole
      → new ++ numbers_from same_pair next rest ≡ whole
  row_ids list new number whole pushed is so_far =
      ap₂ (λ (l : List ℕ) (pairs : List (ℕ × ℕ)). l ++ numbers_from same_pair pairs rest) (pushed ∙ ap (λ (n : ℕ). list ++ n ∷ []) is) adds
      ∙ ids_step same_pair list seen items item rest whole splits so_far

  pub row_extents : (list new : List ℕ) (place after : ℕ) (whole : List ℕ) → new ≡ list ++ new_place same_pair seen place item → after ≡ place + 1
      → list ++ new_places same_pair seen place items ≡ whole → new ++ new_places same_pair next after rest ≡ whole
  row_extents list new place after whole pushed later so_far =
      ap (λ (n : ℕ). new ++ new_places same_pair next n rest) later
      ∙ ap₂ (λ (l : List ℕ) (pairs : List (ℕ × ℕ)). l ++ new_places same_pair pairs (place + 1) rest) pushed adds
      ∙ extents_step same_pair list seen place items item rest whole splits so_far

  pub row_seen : (whole : List (ℕ × ℕ)) → fold (with_item same_pair) seen items ≡ whole → fold (with_item same_pair) next rest ≡ whole
  row_seen whole so_far = ap (λ (pairs : List (ℕ × ℕ)). fold (with_item same_pair) pairs rest) adds ∙ seen_step same_pair seen items item rest whole splits so_far

pub row_longer : (list new : List ℕ) (number count : ℕ) → new ≡ list ++ number ∷ [] → length list ≡ count → length new ≡ count + 1
row_longer list new number count pushed long = omega (arith, ap length pushed, length-append list (number ∷ []))

pub place_longer : (seen : List (ℕ × ℕ)) (item : ℕ × ℕ) (place : ℕ) (list new : List ℕ) (count : ℕ) → new ≡ list ++ new_place same_pair seen place item → length list ≤ count
    → length new ≤ count + 1
place_longer seen item place list new count pushed long =
    omega (arith, ap length pushed, length-append list (new_place same_pair seen place item), length-new_place same_pair (list_any (same_pair item) seen) place)

-- nothing is left at the end
pub all_ids : (seen : List (ℕ × ℕ)) (list : List ℕ) (items : List (ℕ × ℕ)) (whole : List ℕ) → items ≡ [] → list ++ numbers_from same_pair seen items ≡ whole → list ≡ whole
all_ids seen list items whole none so_far = sym (append-nil list) ∙ ap (λ (rest : List (ℕ × ℕ)). list ++ numbers_from same_pair seen rest) (sym none) ∙ so_far

pub all_extents : (seen : List (ℕ × ℕ)) (list : List ℕ) (place : ℕ) (items : List (ℕ × ℕ)) (whole : List ℕ) → items ≡ [] → list ++ new_places same_pair seen place items ≡ whole
    → list ≡ whole
all_extents seen list place items whole none so_far = sym (append-nil list) ∙ ap (λ (rest : List (ℕ × ℕ)). list ++ new_places same_pair seen place rest) (sym none) ∙ so_far
