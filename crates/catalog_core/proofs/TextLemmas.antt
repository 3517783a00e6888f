-- The order of texts, and texts that rise.
use Rattle.std.proofs.Common.{◌≡◌, ◌∙◌, ◌<◌, ◌⊎◌, ℕ, zero, suc, true, List, [], ◌∷◌, ◌++◌, Some, Ordering, Less, Equal, Greater, refl, sym, ap, subst, inl, inr, length, get_or, arith, add-one}
use Rattle.std.specs.List.{Contains}
use Rattle.std.specs.List.Sorted.{IsStrictlySortedBy}
use Rattle.std.specs.Ordering.{MatchOrdering, ordering_reverse, nat_cmp, is_lt}
use Rattle.std.specs.FinMap.{nat_cmp-IsAntisymmetric, slice_cmp-IsAntisymmetric}
use Rattle.std.specs.Cmp.Lexicographic.{slice_cmp}
use Rattle.std.proofs.lemmas.Bool.{and_parts, and_from}
use Rattle.std.proofs.lemmas.Cmp.{nat_list_cmp_total, tied_itself}
use Rattle.std.proofs.lemmas.List.{get_or_default}
use Rattle.std.proofs.lemmas.Map.Keys.{sorted_head, sorted_tail, sorted_from_all_adjacent, Less-from_sorted}
use Rattle.catalog_core.specs.Texts.{Text, is_below}
use Rattle.catalog_core.specs.Dictionaries.{rises}
use Rattle.catalog_core.specs.DictionaryReading.{last_of, may_follow}

-- the order of two texts
abbrev pub order : Text → Text → Ordering
order = slice_cmp nat_cmp

less_of : (o : Ordering) → is_lt o ≡ true → o ≡ Less
less_of Less h = refl
less_of Equal h = cc
less_of Greater h = cc

pub less_of_below : (text other : Text) → is_below text other ≡ true → order text other ≡ Less
less_of_below text other below = less_of (order text other) below

pub below_of_less : (text other : Text) → order text other ≡ Less → is_below text other ≡ true
below_of_less text other less = ap is_lt less

-- what the order of two texts says of them
pub stands_to : (text other : Text) (o : Ordering) → o ≡ order other text → MatchOrdering o (is_below other text ≡ true) (other ≡ text) (is_below text other ≡ true)
stands_to text other Less is = below_of_less other text (sym is)
stands_to text other Equal is = slice_cmp-IsAntisymmetric nat_cmp-IsAntisymmetric other text (sym is)
stands_to text other Greater is = below_of_less text other (nat_list_cmp_total.antisymm text other ∙ ap ordering_reverse (sym is))

pub below_itself : (text : Text) → is_below text text ≡ true → ⊥
below_itself text below =
    let less = less_of_below text text below in
    let tied = tied_itself nat_list_cmp_total text in
    cc

pub below_through : (text middle other : Text) → is_below text middle ≡ true → is_below middle other ≡ true → is_below text other ≡ true
below_through text middle other first second =
    below_of_less text other (nat_list_cmp_total.trans text middle other (less_of_below text middle first) (less_of_below middle other second))

-- texts that rise, in std's word
adjacent : (texts : List Text) (k : ℕ) → rises texts ≡ true → suc k < length texts → order (get_or texts k []) (get_or texts (suc k) []) ≡ Less
adjacent [] k rise within = absurd (omega (arith, within))
adjacent (first ∷ []) k rise within = absurd (omega (arith, within))
adjacent (first ∷ next ∷ rest) zero rise within = less_of_below first next (and_parts (is_below first next) (rises (next ∷ rest)) rise).0
adjacent (first ∷ next ∷ rest) (suc k) rise within = adjacent (next ∷ rest) k (and_parts (is_below first next) (rises (next ∷ rest)) rise).1 (omega (arith, within))

pub sorted_of_rises : (texts : List Text) → rises texts ≡ true → IsStrictlySortedBy order texts
sorted_of_rises texts rise = sorted_from_all_adjacent nat_list_cmp_total texts [] (λ k within. rw add-one (adjacent texts k rise (omega (arith, within))))

pub rises_of_sorted : (texts : List Text) → IsStrictlySortedBy order texts → rises texts ≡ true
rises_of_sorted [] sorted = refl
rises_of_sorted (first ∷ []) sorted = refl
rises_of_sorted (first ∷ next ∷ rest) sorted =
    and_from (is_below first next) (rises (next ∷ rest)) (below_of_less first next (sorted_head order first (next ∷ rest) sorted).0)
    (rises_of_sorted (next ∷ rest) (sorted_tail order first (next ∷ rest) sorted))

-- an earlier one of texts that rise is below a later one
pub below_later : (texts : List Text) (i j : ℕ) → rises texts ≡ true → i < j → j < length texts → is_below (get_or texts i []) (get_or texts j []) ≡ true
below_later texts i j rise before within = below_of_less (get_or texts i []) (get_or texts j []) (Less-from_sorted order texts i j [] (sorted_of_rises texts rise) before within)

-- One more text.

pub last_of-push : (texts : List Text) (text : Text) → last_of (texts ++ text ∷ []) ≡ Some text
last_of-push [] text = refl
last_of-push (first ∷ []) text = refl
last_of-push (first ∷ next ∷ rest) text = last_of-push (next ∷ rest) text

pub rises-push : (texts : List Text) (text : Text) → rises texts ≡ true → may_follow (last_of texts) text ≡ true → rises (texts ++ text ∷ []) ≡ true
rises-push [] text rise follows = refl
rises-push (first ∷ []) text rise follows = and_from (is_below first text) true follows refl
rises-push (first ∷ next ∷ rest) text rise follows =
    let (here, more) = and_parts (is_below first next) (rises (next ∷ rest)) rise in
    and_from (is_below first next) (rises ((next ∷ rest) ++ text ∷ [])) here (rises-push (next ∷ rest) text more follows)

pub follows_of_rises : (texts : List Text) (text : Text) → rises (texts ++ text ∷ []) ≡ true → may_follow (last_of texts) text ≡ true
follows_of_rises [] text rise = refl
follows_of_rises (first ∷ []) text rise = (and_parts (is_below first text) true rise).0
follows_of_rises (first ∷ next ∷ rest) text rise = follows_of_rises (next ∷ rest) text (and_parts (is_below first next) (rises ((next ∷ rest) ++ text ∷ [])) rise).1

pub rises-front : (texts more : List Text) → rises (texts ++ more) ≡ true → rises texts ≡ true
rises-front [] more rise = refl
rises-front (first ∷ []) more rise = refl
rises-front (first ∷ next ∷ rest) more rise =
    let (here, later) = and_parts (is_below first next) (rises ((next ∷ rest) ++ more)) rise in
    and_from (is_below first next) (rises (next ∷ rest)) here (rises-front (next ∷ rest) more later)

-- Two lists of texts that rise, and have the same texts, are equal.

contains_head : (text : Text) (texts : List Text) → Contains (text ∷ texts) text
contains_head text texts = (0, omega arith, refl)

contains_later : (first text : Text) (texts : List Text) → Contains texts text → Contains (first ∷ texts) text
contains_later first text texts (k, within, is) = (suc k, omega (arith, within), is)

contains_cases : (first text : Text) (texts : List Text) → Contains (first ∷ texts) text → (first ≡ text) ⊎ Contains texts text
contains_cases first text texts (zero, within, is) = inl is
contains_cases first text texts (suc k, within, is) = inr (k, omega (arith, within), is)

-- no text of a list that rises is below its first one
not_below_head : (first : Text) (texts : List Text) (text : Text) → rises (first ∷ texts) ≡ true → Contains (first ∷ texts) text → is_below text first ≡ true → ⊥
not_below_head first texts text rise (zero, within, is) below = below_itself first (subst (λ t. is_below t first ≡ true) (sym is) below)
not_below_head first texts text rise (suc k, within, is) below =
    let at : get_or texts k [] ≡ text = sym (get_or_default texts k text [] (omega (arith, within))) ∙ is in
    let later = below_later (first ∷ texts) 0 (suc k) rise (omega arith) within in
    below_itself first (below_through first text first (subst (λ t. is_below first t ≡ true) at later) below)

head_not_later : (first : Text) (texts : List Text) → rises (first ∷ texts) ≡ true → Contains texts first → ⊥
head_not_later first texts rise (k, within, is) =
    let at : get_or texts k [] ≡ first = sym (get_or_default texts k first [] within) ∙ is in
    let later = below_later (first ∷ texts) 0 (suc k) rise (omega arith) (omega (arith, within)) in
    below_itself first (subst (λ t. is_below first t ≡ true) at later)

rises_tail : (first : Text) (texts : List Text) → rises (first ∷ texts) ≡ true → rises texts ≡ true
rises_tail first [] rise = refl
rises_tail first (next ∷ rest) rise = (and_parts (is_below first next) (rises (next ∷ rest)) rise).1

-- the first ones are equal: each is among the other's texts, and so not below the other
same_heads : (first other : Text) (texts others : List Text) → rises (first ∷ texts) ≡ true → rises (other ∷ others) ≡ true → Contains (other ∷ others) first → Contains (first ∷ texts) other → first ≡ other
same_heads first other texts others rise rises' has has' =
    elim (contains_cases other first others has) [
      | inl same ↦ sym same
      | inr later ↦ elim (contains_cases first other texts has') [
        | inl same ↦ same
        | inr later' ↦
            let (k, within, is) = later in
            let at : get_or others k [] ≡ first = sym (get_or_default others k first [] within) ∙ is in
            let below = subst (λ t. is_below other t ≡ true) at (below_later (other ∷ others) 0 (suc k) rises' (omega arith) (omega (arith, within))) in
            absurd (not_below_head first texts other rise has' below)
      ]
    ]

same_tails : (first : Text) (texts others : List Text) → rises (first ∷ texts) ≡ true → ((text : Text) → Contains (first ∷ texts) text → Contains (first ∷ others) text) → (text : Text) → Contains texts text → Contains others text
same_tails first texts others rise keeps text has =
    elim (contains_cases first text others (keeps text (contains_later first text texts has))) [
      | inl same ↦ absurd (head_not_later first texts rise (subst (Contains texts) (sym same) has))
      | inr later ↦ later
    ]

nothing_within : (text : Text) → Contains [] text → ⊥
nothing_within text (k, within, is) = omega (arith, within)

pub same_rising : (texts others : List Text) → rises texts ≡ true → rises others ≡ true → ((text : Text) → Contains texts text → Contains others text) → ((text : Text) → Contains others text → Contains texts text) → texts ≡ others
same_rising [] [] rise rises' to from = refl
same_rising [] (other ∷ others) rise rises' to from = absurd (nothing_within other (from other (contains_head other others)))
same_rising (first ∷ texts) [] rise rises' to from = absurd (nothing_within first (to first (contains_head first texts)))
same_rising (first ∷ texts) (other ∷ others) rise rises' to from =
    let same : first ≡ other = same_heads first other texts others rise rises' (to first (contains_head first texts)) (from other (contains_head other others)) in
    let rise_here : rises (first ∷ others) ≡ true = subst (λ t. rises (t ∷ others) ≡ true) (sym same) rises' in
    let to_here : (text : Text) → Contains (first ∷ texts) text → Contains (first ∷ others) text = λ text has. subst (λ t. Contains (t ∷ others) text) (sym same) (to text has) in
    let from_here : (text : Text) → Contains (first ∷ others) text → Contains (first ∷ texts) text = λ text has. from text (subst (λ t. Contains (t ∷ others) text) same has) in
    let tails = same_rising texts others (rises_tail first texts rise) (rises_tail other others rises') (same_tails first texts others rise to_here) (same_tails first others texts rise_here from_here) in
    cc
