-- The places of a list, and those at which a test holds.
use Rattle.std.proofs.Common.{◌≡◌, ◌∙◌, ap, ap₂, refl, sym, subst, ℕ, zero, suc, ◌+◌, ◌<◌, ◌≤◌, Bool, true, false, cond, not, All, List, [], ◌∷◌, ◌++◌, map, length, get_or, arith}
use Rattle.std.specs.Prelude.{filter, Contains}
use Rattle.std.specs.List.{range_with_len}
use Rattle.std.proofs.lemmas.List.Elements.{All-contains, All-filter, All-from_get_or, filter-append, filter_passes}
use Rattle.std.proofs.lemmas.List.Filters.{length-filter_both}
use Rattle.std.proofs.lemmas.List.FromFn.{length-range_with_len, get_or-range_with_len, fill_by_all}
use Rattle.std.proofs.lemmas.List.Kept.{IsStrictlyIncreasing-filter}
use Rattle.definitions_operators.specs.Operators.{places, places_where}
use Rattle.definitions_operators.specs.Positions.{Rises, IsPositionList, OnePositionList}
use Rattle.definitions_operators.proofs.ListLaws.{filter-map, filter-same, Contains-filter, rising-same}

-- # Places

pub length-places : (n : ℕ) → length (places n) ≡ n
length-places n = length-range_with_len 0 n

-- the place at k is k
pub get_or-places : (n k d : ℕ) → k < n → get_or (places n) k d ≡ k
get_or-places n k d below = let at = get_or-range_with_len 0 n k d below in omega arith

pub places-below : (n : ℕ) → All (λ place. place < n) (places n)
places-below n = All-from_get_or (λ place. place < n) (places n) 0 (λ k within. let at = get_or-places n k 0 (omega (arith, length-places n)) in omega (arith, length-places n))

pub Contains-places : (n place : ℕ) → place < n → Contains (places n) place
Contains-places n place below = (place, omega (arith, length-places n), get_or-places n place place below)

pub places-rise : (n : ℕ) → Rises (places n)
places-rise n k within =
    let here = get_or-places n k 0 (omega (arith, length-places n)) in
    let next = get_or-places n (k + 1) 0 (omega (arith, length-places n)) in
    omega arith

-- n numbers from `first` on are the places, moved by `first`
range-places : (first n : ℕ) → range_with_len first n ≡ map (λ place. first + place) (places n)
range-places first n = fill_by_all (λ place. first + place) (range_with_len first n) n 0 (length-range_with_len first n) (λ k within. get_or-range_with_len first n k 0 within)

range-append : (first n m : ℕ) → range_with_len first (n + m) ≡ range_with_len first n ++ range_with_len (first + n) m
range-append first zero m = ap₂ range_with_len (omega arith) (omega arith)
range-append first (suc n) m =
    let long : suc n + m ≡ suc (n + m) = omega arith in
    let start : first + 1 + n ≡ first + suc n = omega arith in
    ap (range_with_len first) long ∙ ap (λ l. first ∷ l) (range-append (first + 1) n m ∙ ap (λ k. range_with_len (first + 1) n ++ range_with_len k m) start)

-- the places of n values and of m more
pub places-append : (n m : ℕ) → places (n + m) ≡ places n ++ map (λ place. n + place) (places m)
places-append n m = range-append 0 n m ∙ ap (λ k. places n ++ range_with_len k m) (let start : 0 + n ≡ n = omega arith in start) ∙ ap (λ l. places n ++ l) (range-places n m)

-- # Those at which a test holds

pub places_where-below : (test : ℕ → Bool) (n : ℕ) → All (λ place. place < n) (places_where test n)
places_where-below test n = All-filter test (λ place. place < n) (places n) (places-below n)

pub places_where-pass : (test : ℕ → Bool) (n : ℕ) → All (λ place. test place ≡ true) (places_where test n)
places_where-pass test n = filter_passes test (places n)

pub places_where-rise : (test : ℕ → Bool) (n : ℕ) → Rises (places_where test n)
places_where-rise test n = IsStrictlyIncreasing-filter test (places n) (places-rise n)

-- they are at most n
pub places_where-few : (test : ℕ → Bool) (n : ℕ) → length (places_where test n) ≤ n
places_where-few test n = omega (arith, length-filter_both test (λ place. not (test place)) (λ place. refl) (places n), length-places n)

-- two tests that agree below n have the same places
pub places_where-same : (p q : ℕ → Bool) (n : ℕ) → ((place : ℕ) → place < n → p place ≡ q place) → places_where p n ≡ places_where q n
places_where-same p q n same = filter-same (λ place. place < n) p q same (places n) (places-below n)

-- the places among n values, and those among m more
pub places_where-append : (test : ℕ → Bool) (n m : ℕ) → places_where test (n + m) ≡ places_where test n ++ map (λ place. n + place) (places_where (λ place. test (n + place)) m)
places_where-append test n m =
    ap (filter test) (places-append n m)
    ∙ filter-append test (places n) (map (λ place. n + place) (places m))
    ∙ ap (λ l. places_where test n ++ l) (filter-map test (λ place. n + place) (places m))

-- the places behind the first one are those of the values behind it, moved by one
pub places_where-later : (test : ℕ → Bool) (n : ℕ) → filter test (range_with_len 1 n) ≡ map suc (places_where (λ place. test (suc place)) n)
places_where-later test n =
    let next : (place : ℕ) → 1 + place ≡ suc place = λ place. omega arith in
    ap (filter test) (range-places 1 n ∙ ap (λ (move : ℕ → ℕ). map move (places n)) (λ i place. next place i)) ∙ filter-map test suc (places n)

-- one value more
pub places_where-more : (test : ℕ → Bool) (n : ℕ) → places_where test (n + 1) ≡ places_where test n ++ cond (test n) (n ∷ []) []
places_where-more test n =
    let start : n + 0 ≡ n = omega arith in
    places_where-append test n 1
    ∙ ap (λ l. places_where test n ++ l)
    ((elim (test (n + 0)) as (λ b. map (λ place. n + place) (cond b (0 ∷ []) []) ≡ cond b ((n + 0) ∷ []) []) [ true ↦ refl | false ↦ refl ])
    ∙ ap (λ k. cond (test k) (k ∷ []) []) start)

-- the elements of a list that pass a test are those at the places where they pass it
pub places_where-read : {A : Type 0} (d : A) (test : A → Bool) (xs : List A) →
    map (λ place. get_or xs place d) (places_where (λ place. test (get_or xs place d)) (length xs)) ≡ filter test xs
places_where-read d test xs =
    sym (filter-map test (λ place. get_or xs place d) (places (length xs)))
    ∙ ap (filter test) (sym (fill_by_all (λ place. get_or xs place d) xs (length xs) d refl (λ k within. refl)))

-- # Position lists

-- a place is among them exactly if it is below n and passes the test
pub IsPositionList-places_where : (test : ℕ → Bool) (n : ℕ) → IsPositionList test n (places_where test n)
IsPositionList-places_where test n = record {
  rises = places_where-rise test n;
  members =
      λ place. (
        λ among. (All-contains (λ p. p < n) (places_where test n) place (places_where-below test n) among, All-contains (λ p. test p ≡ true) (places_where test n) place (places_where-pass test n) among),
        λ holds. Contains-filter test (places n) place holds.1 (Contains-places n place holds.0),
      );
}

-- there is no other position list of a test
pub IsPositionList-same : (test : ℕ → Bool) (n : ℕ) (xs ys : List ℕ) → IsPositionList test n xs → IsPositionList test n ys → xs ≡ ys
IsPositionList-same test n xs ys one other =
    rising-same xs ys one.rises other.rises
    (λ place among. (other.members place).1 ((one.members place).0 among))
    (λ place among. (one.members place).1 ((other.members place).0 among))

pub one_position_list : OnePositionList
one_position_list test n positions = (
  λ is. IsPositionList-same test n positions (places_where test n) is (IsPositionList-places_where test n),
  λ same. subst (IsPositionList test n) (sym same) (IsPositionList-places_where test n),
)
