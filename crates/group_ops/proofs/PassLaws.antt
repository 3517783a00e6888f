-- One pass over pairs, a block after the other.
use Rattle.std.proofs.Common.{◌≡◌, ℕ, zero, suc, ◌+◌, ◌*◌, ◌≤◌, List, [], ◌∷◌, ◌++◌, length, take, drop, refl, sym, ap, ap₂, ◌∙◌, arith}
use Rattle.std.specs.Prelude.{zip}
use Rattle.std.specs.List.{fold}
use Rattle.std.proofs.lemmas.List.{map-append, length-map, length-take-le, length-take, length-drop, take-append-drop, take-take, drop-take}
use Rattle.definitions_blocks.specs.Blocks.{block_values, block_at}
use Rattle.definitions_operators.specs.Groups.{with_item}
use Rattle.definitions_operators.proofs.GroupWords.{numbers_from, new_places}
use Rattle.definitions_operators.proofs.GroupLaws.{fold_append}
use Rattle.definitions_operators.proofs.NumberingLaws.{numbers_from-append, new_places-append, length-zip}
use Rattle.group_ops.specs.Pairs.{same_pair, pairs_of, pairs_within}
use Rattle.group_ops.proofs.PieceLaws.{take-next}

abbrev pub seen_in : List (ℕ × ℕ) → List (ℕ × ℕ)
seen_in pairs = fold (with_item same_pair) [] pairs

-- what was found in the pairs so far goes on with what the rest gives
module _ (front rest all : List (ℕ × ℕ)) (whole : List ℕ) (joins : front ++ rest ≡ all) where
  pub ids_rest : numbers_from same_pair [] all ≡ whole → numbers_from same_pair [] front ++ numbers_from same_pair (seen_in front) rest ≡ whole
  ids_rest is = sym (numbers_from-append same_pair [] front rest) ∙ ap (numbers_from same_pair []) joins ∙ is

  pub extents_rest : new_places same_pair [] 0 all ≡ whole → new_places same_pair [] 0 front ++ new_places same_pair (seen_in front) (0 + length front) rest ≡ whole
  extents_rest is = sym (new_places-append same_pair [] 0 front rest) ∙ ap (new_places same_pair [] 0) joins ∙ is

-- what was found in the pairs so far, and in those of a block
module _ (front block next table : List (ℕ × ℕ)) (seen : table ≡ seen_in front) (goes_on : front ++ block ≡ next) where
  pub ids_next : (piece : List ℕ) → piece ≡ numbers_from same_pair table block → numbers_from same_pair [] front ++ piece ≡ numbers_from same_pair [] next
  ids_next piece is =
      ap (λ (list : List ℕ). numbers_from same_pair [] front ++ list) (is ∙ ap (λ (pairs : List (ℕ × ℕ)). numbers_from same_pair pairs block) seen)
      ∙ sym (numbers_from-append same_pair [] front block) ∙ ap (numbers_from same_pair []) goes_on

  pub extents_next : (at : ℕ) (piece : List ℕ) → at ≡ length front → piece ≡ new_places same_pair table at block → new_places same_pair [] 0 front ++ piece ≡ new_places same_pair [] 0 next
  extents_next at piece first is =
      let from : at ≡ 0 + length front = omega (arith, first) in
      ap (λ (list : List ℕ). new_places same_pair [] 0 front ++ list) (is ∙ ap₂ (λ (pairs : List (ℕ × ℕ)) (n : ℕ). new_places same_pair pairs n block) seen from)
      ∙ sym (new_places-append same_pair [] 0 front block) ∙ ap (new_places same_pair [] 0) goes_on

  pub seen_next : (after : List (ℕ × ℕ)) → after ≡ fold (with_item same_pair) table block → after ≡ seen_in next
  seen_next after is =
      is ∙ ap (λ (pairs : List (ℕ × ℕ)). fold (with_item same_pair) pairs block) seen ∙ sym (fold_append (with_item same_pair) [] front block) ∙ ap seen_in goes_on

-- the pairs of a column
pub values_split : (n : ℕ) (values : List ℕ) → pairs_of (take n values) ++ pairs_of (drop n values) ≡ pairs_of values
values_split n values = sym (map-append (λ (value : ℕ). (0, value)) (take n values) (drop n values)) ∙ ap pairs_of (take-append-drop n values)

pub values_next : (number : ℕ) (values block : List ℕ) → block ≡ block_at values number
    → pairs_of (take (number * block_values) values) ++ pairs_of block ≡ pairs_of (take ((number + 1) * block_values) values)
values_next number values block is =
    ap (λ (list : List ℕ). pairs_of (take (number * block_values) values) ++ pairs_of list) is
    ∙ sym (map-append (λ (value : ℕ). (0, value)) (take (number * block_values) values) (block_at values number)) ∙ ap pairs_of (take-next number values)

pub values_before : (n : ℕ) (values : List ℕ) → n ≤ length values → n ≡ length (pairs_of (take n values))
values_before n values within = omega (arith, length-map {B = ℕ × ℕ} (take n values) (λ (value : ℕ). (0, value)), length-take-le n values within)

-- the pairs of earlier groups and a column
zip_none : (xs : List ℕ) → (let none : List ℕ = [] in zip xs none) ≡ []
zip_none [] = refl
zip_none (x ∷ xs) = refl

pub pairs_split : (n : ℕ) (before values : List ℕ) → pairs_within (take n before) (take n values) ++ pairs_within (drop n before) (drop n values) ≡ pairs_within before values
pairs_split zero before values = refl
pairs_split (suc n) [] values = refl
pairs_split (suc n) (b ∷ before) [] = zip_none (drop n before)
pairs_split (suc n) (b ∷ before) (v ∷ values) = ap (λ (rest : List (ℕ × ℕ)). (b, v) ∷ rest) (pairs_split n before values)

pub pairs_next : (number : ℕ) (before values earlier block : List ℕ) → earlier ≡ block_at before number → block ≡ block_at values number
    → pairs_within (take (number * block_values) before) (take (number * block_values) values) ++ pairs_within earlier block
    ≡ pairs_within (take ((number + 1) * block_values) before) (take ((number + 1) * block_values) values)
pairs_next number before values earlier block was is =
    let at = number * block_values in
    let to = at + block_values in
    let end : to ≡ (number + 1) * block_values = omega arith in
    let front : pairs_within (take at before) (take at values) ≡ pairs_within (take at (take to before)) (take at (take to values)) =
    ap₂ (λ (xs ys : List ℕ). zip xs ys) (sym (take-take at to before (omega arith))) (sym (take-take at to values (omega arith))) in
    let back : pairs_within earlier block ≡ pairs_within (drop at (take to before)) (drop at (take to values)) =
    ap₂ (λ (xs ys : List ℕ). zip xs ys) (was ∙ sym (drop-take at block_values before)) (is ∙ sym (drop-take at block_values values)) in
    ap₂ (λ (xs ys : List (ℕ × ℕ)). xs ++ ys) front back ∙ pairs_split at (take to before) (take to values) ∙ ap (λ (n : ℕ). pairs_within (take n before) (take n values)) end

pub pairs_before : (n : ℕ) (before values : List ℕ) → length before ≡ length values → n ≤ length values → n ≡ length (pairs_within (take n before) (take n values))
pairs_before n before values same within =
    let first : length (take n before) ≡ n = length-take-le n before (omega (arith, same, within)) in
    let second : length (take n values) ≡ n = length-take-le n values within in
    let long : length (zip (take n before) (take n values)) ≡ length (take n values) = length-zip (take n before) (take n values) (first ∙ sym second) in
    sym (long ∙ second)

-- two lists that are as long have blocks that are as long
pub same_blocks : (number : ℕ) (before values earlier block : List ℕ) → length before ≡ length values → earlier ≡ block_at before number → block ≡ block_at values number
    → length earlier ≡ length block
same_blocks number before values earlier block same was is =
    let at = number * block_values in
    omega (arith, same, ap length was, ap length is, length-take block_values (drop at before), length-drop at before, length-take block_values (drop at values), length-drop at values)
