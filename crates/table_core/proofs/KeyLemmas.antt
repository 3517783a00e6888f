-- Keys that differ, and keys of which two are equal.
use Rattle.std.proofs.Common.{◌≡◌, ◌∙◌, ℕ, zero, suc, ◌+◌, ◌≤◌, ◌⊎◌, inl, inr, true, false, List, [], ◌∷◌, get_or, sym, arith}
use Rattle.std.specs.Prelude.{nat_eq}
use Rattle.std.specs.Cmp.{nat_eq_equiv}
use Rattle.std.specs.Ordering.{nat_cmp}
use Rattle.std.specs.List.{AllByRecursion, IsDistinct, list_any}
use Rattle.std.specs.List.Sorted.{IsPermutation, IsSorted, IsNonDecreasing}
use Rattle.std.proofs.lemmas.Bool.{cases_Bool, or_parts, eqb-true, eqb-false, ne_eqb}
use Rattle.std.proofs.lemmas.List.{get_or_default}
use Rattle.std.proofs.lemmas.List.Sorted.{IsNonDecreasingBy-from_sort, IsPermutation-sym}
use Rattle.std.proofs.lemmas.Map.Keys.{IsDistinct-cons, IsDistinct-from_apart, apart_from_distinct, IsDistinct-IsPermutation}
use Rattle.std.proofs.lemmas.Map.Views.{Contains-from_any}
use Rattle.table_core.specs.Held.{HasEqualKeys}
use Rattle.table_core.specs.Keys.{HasEqualNeighbours}

-- none of the values is the one
none_is : (value : ℕ) (values : List ℕ) → list_any (nat_eq value) values ≡ false → AllByRecursion (λ other. nat_eq value other ≡ false) values
none_is value [] none = tt
none_is value (first ∷ values) none =
    let parts = or_parts (nat_eq value first) (list_any (nat_eq value) values) none in (parts.0, none_is value values parts.1)

-- the first value stands again
repeats_here : (value : ℕ) (values : List ℕ) → list_any (nat_eq value) values ≡ true → HasEqualKeys (value ∷ values)
repeats_here value values there =
    let (place, within, is) = Contains-from_any (eqb-true) value values there in
    record {
      row = zero;
      later = suc place;
      order = omega arith;
      within = omega (arith, within);
      equal = sym is ∙ get_or_default values place value 0 within;
    }

-- two of the later values are equal
repeats_later : (value : ℕ) (values : List ℕ) → HasEqualKeys values → HasEqualKeys (value ∷ values)
repeats_later value values rest = record {
  row = suc rest.row;
  later = suc rest.later;
  order = omega (arith, rest.order);
  within = omega (arith, rest.within);
  equal = rest.equal;
}

pub differ_or_repeat : (values : List ℕ) → IsDistinct nat_eq values ⊎ HasEqualKeys values
unfolding IsDistinct
differ_or_repeat [] = inl tt
differ_or_repeat (value ∷ values) =
    elim (cases_Bool (list_any (nat_eq value) values)) [
      | inl there ↦ inr (repeats_here value values there)
      | inr none ↦ elim (differ_or_repeat values) [
        | inl apart ↦ inl (IsDistinct-cons nat_eq value values (none_is value values none) apart)
        | inr rest ↦ inr (repeats_later value values rest)
      ]
    ]

-- ---- sorted keys

-- sorted values of which no neighbours are equal differ
pub distinct_of_neighbours : (sorted : List ℕ) → IsSorted nat_cmp sorted → (HasEqualNeighbours sorted → ⊥) → IsDistinct nat_eq sorted
distinct_of_neighbours sorted is none =
    let rise : IsNonDecreasing sorted = IsNonDecreasingBy-from_sort (λ x. x) sorted is in
    IsDistinct-from_apart nat_eq sorted (λ i j d below within. ne_eqb (get_or sorted i d) (get_or sorted j d) (λ same.
    none (record {
      place = i;
      within = omega (arith, below, within);
      equal =
          let here : get_or sorted i d ≤ get_or sorted (i + 1) d = rise i (i + 1) d (omega arith) (omega (arith, below, within)) in
          let next : get_or sorted (i + 1) d ≤ get_or sorted j d = rise (i + 1) j d (omega (arith, below)) within in
          let equal : get_or sorted i d ≡ get_or sorted (i + 1) d = omega (arith, here, next, same) in
          get_or_default sorted i 0 d (omega (arith, below, within)) ∙ equal ∙ get_or_default sorted (i + 1) d 0 (omega (arith, below, within));
    })))

pub repeat_of_neighbours : (values : List ℕ) → HasEqualNeighbours values → IsDistinct nat_eq values → ⊥
repeat_of_neighbours values is apart =
    eqb-false (get_or values is.place 0) (get_or values (is.place + 1) 0) (apart_from_distinct nat_eq values is.place (is.place + 1) 0 apart (omega arith) is.within) is.equal

-- the values differ if those in order do
pub differ_if_sorted : (values sorted : List ℕ) → IsPermutation values sorted → IsDistinct nat_eq sorted → IsDistinct nat_eq values
differ_if_sorted values sorted moved apart = IsDistinct-IsPermutation nat_eq nat_eq_equiv.symm sorted values (IsPermutation-sym values sorted moved) apart

-- two values are equal if two of those in order are
pub repeat_if_sorted : (values sorted : List ℕ) → IsPermutation values sorted → HasEqualNeighbours sorted → HasEqualKeys values
repeat_if_sorted values sorted moved is =
    elim (differ_or_repeat values) [
      | inl apart ↦ absurd (repeat_of_neighbours sorted is (IsDistinct-IsPermutation nat_eq nat_eq_equiv.symm values sorted moved apart))
      | inr repeat ↦ repeat
    ]
