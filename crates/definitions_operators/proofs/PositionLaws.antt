-- The places of the values that pass a test: block by block, and with a counter as loops make them.
use Rattle.std.proofs.Common.{◌≡◌, ◌∙◌, ap, ap₂, refl, sym, ℕ, suc, ◌+◌, ◌<◌, ◌≤◌, Bool, true, false, cond, All, List, [], ◌∷◌, ◌++◌, map, take, drop, length, arith}
use Rattle.std.specs.Prelude.{filter, slice_index, if◌then◌else◌}
use Rattle.std.specs.List.{range_with_len}
use Rattle.std.proofs.lemmas.Bool.Decides.{nat_tests}
use Rattle.std.proofs.lemmas.List.{drop-take, length-take-le, map-id, take-append-drop, take-take, take_more}
use Rattle.std.proofs.lemmas.Simd.{map-map}
use Rattle.definitions_operators.specs.Operators.{places, passing_places, is_within, positions_in}
use Rattle.definitions_operators.specs.Positions.{IsPositionList}
use Rattle.definitions_operators.proofs.ListLaws.{filter-none}
use Rattle.definitions_operators.proofs.PlaceLaws.{places_where-below, places_where-later, IsPositionList-places_where}

-- # With a counter

-- the places from `first` on whose value passes
abbrev pub places_from : (ℕ → Bool) → ℕ → List ℕ → List ℕ
places_from test first [] = []
places_from test first (value ∷ values) = if test value then first ∷ places_from test (first + 1) values else places_from test (first + 1) values

-- they are the places of these values, moved by `first`
pub places_from-are : (test : ℕ → Bool) (first : ℕ) (values : List ℕ) → places_from test first values ≡ map (λ place. first + place) (passing_places test values)
places_from-are test first [] = refl
places_from-are test first (value ∷ values) =
    let move : ℕ → ℕ = λ place. first + place in
    let at : ℕ → Bool = λ place. test (slice_index (value ∷ values) place) in
    let later : List ℕ = filter at (range_with_len 1 (length values)) in
    let next : (place : ℕ) → first + 1 + place ≡ first + suc place = λ place. omega arith in
    let start : first ≡ first + 0 = omega arith in
    let same : places_from test (first + 1) values ≡ map move later =
    places_from-are test (first + 1) values
    ∙ ap (λ (f : ℕ → ℕ). map f (passing_places test values)) (λ i place. next place i)
    ∙ sym (map-map move suc (passing_places test values))
    ∙ ap (map move) (sym (places_where-later at (length values))) in
    ap (λ l. cond (test value) (first ∷ l) l) same
    ∙ (elim (test value) as (λ b. cond b (first ∷ map move later) (map move later) ≡ map move (cond b (0 ∷ later) later)) [ true ↦ ap (λ k. k ∷ map move later) start | false ↦ refl ])

pub passing_places-from : (test : ℕ → Bool) (values : List ℕ) → passing_places test values ≡ places_from test 0 values
passing_places-from test values =
    let same : (place : ℕ) → place ≡ 0 + place = λ place. omega arith in
    sym (map-id (passing_places test values)) ∙ ap (λ (f : ℕ → ℕ). map f (passing_places test values)) (λ i place. same place i) ∙ sym (places_from-are test 0 values)

cond-append : (b : Bool) (xs ys zs : List ℕ) → cond b (xs ++ zs) (ys ++ zs) ≡ cond b xs ys ++ zs
cond-append true xs ys zs = refl
cond-append false xs ys zs = refl

pub places_from-append : (test : ℕ → Bool) (first : ℕ) (front back : List ℕ) →
    places_from test first (front ++ back) ≡ places_from test first front ++ places_from test (first + length front) back
places_from-append test first [] back = ap (λ (next : ℕ). places_from test next back) (omega arith)
places_from-append test first (value ∷ front) back =
    let rest = places_from test (first + 1) front in
    let later = places_from test (first + length (value ∷ front)) back in
    let same : places_from test (first + 1) (front ++ back) ≡ rest ++ later =
    places_from-append test (first + 1) front back ∙ ap (λ (next : ℕ). rest ++ places_from test next back) (omega arith) in
    ap (λ (all : List ℕ). cond (test value) (first ∷ all) all) same ∙ cond-append (test value) (first ∷ rest) rest later

-- # Block by block

-- the places of values and of those behind them
pub passing_places-append : (test : ℕ → Bool) (front back : List ℕ) →
    passing_places test (front ++ back) ≡ passing_places test front ++ map (λ place. length front + place) (passing_places test back)
passing_places-append test front back =
    let start : 0 + length front ≡ length front = omega arith in
    passing_places-from test (front ++ back)
    ∙ places_from-append test 0 front back
    ∙ ap (λ l. l ++ places_from test (0 + length front) back) (sym (passing_places-from test front))
    ∙ ap (λ (n : ℕ). passing_places test front ++ places_from test n back) start
    ∙ ap (λ l. passing_places test front ++ l) (places_from-are test (length front) back)

-- n values more
pub passing_places-block : (test : ℕ → Bool) (first n : ℕ) (values : List ℕ) → first ≤ length values →
    passing_places test (take (first + n) values) ≡ passing_places test (take first values) ++ map (λ place. first + place) (passing_places test (take n (drop first values)))
passing_places-block test first n values within =
    let block = passing_places test (take n (drop first values)) in
    let parts : take first values ++ take n (drop first values) ≡ take (first + n) values =
    ap₂ (λ l r. l ++ r) (sym (take-take first (first + n) values (omega arith))) (sym (drop-take first n values)) ∙ take-append-drop first (take (first + n) values) in
    sym (ap (passing_places test) parts)
    ∙ passing_places-append test (take first values) (take n (drop first values))
    ∙ ap (λ (k : ℕ). passing_places test (take first values) ++ map (λ place. k + place) block) (length-take-le first values within)

-- one value more
pub passing_places-more : (test : ℕ → Bool) (k : ℕ) (values : List ℕ) → k < length values →
    passing_places test (take (k + 1) values) ≡ passing_places test (take k values) ++ cond (test (slice_index values k)) (k ∷ []) []
passing_places-more test k values within =
    let before = passing_places test (take k values) in
    let here : length (take k values) + 0 ≡ k = omega (arith, length-take-le k values (omega arith)) in
    ap (passing_places test) (take_more values k 0 within)
    ∙ passing_places-append test (take k values) (slice_index values k ∷ [])
    ∙ ap (λ l. before ++ l)
    (elim (test (slice_index values k)) as (λ b. map (λ place. length (take k values) + place) (cond b (0 ∷ []) []) ≡ cond b (k ∷ []) []) [ true ↦ ap (λ n. n ∷ []) here | false ↦ refl ])

-- # Selections

-- the places from `first` on whose value is from low to high
abbrev pub positions_from : ℕ → ℕ → ℕ → List ℕ → List ℕ
positions_from first low high values = places_from (is_within low high) first values

pub positions_in-from : (low high : ℕ) (values : List ℕ) → positions_in low high values ≡ positions_from 0 low high values
positions_in-from low high values = passing_places-from (is_within low high) values

pub positions_in-below : (low high : ℕ) (values : List ℕ) → All (λ position. position < length values) (positions_in low high values)
positions_in-below low high values = places_where-below (λ place. is_within low high (slice_index values place)) (length values)

pub IsPositionList-positions_in : (low high : ℕ) (values : List ℕ) → IsPositionList (λ place. is_within low high (slice_index values place)) (length values) (positions_in low high values)
IsPositionList-positions_in low high values = IsPositionList-places_where (λ place. is_within low high (slice_index values place)) (length values)

is_within-none : (low high value : ℕ) → high < low → is_within low high value ≡ false
is_within-none low high value none = grind (arith, nat_tests)

-- no value is in a range that ends below its start
pub positions_in_none : (low high : ℕ) (values : List ℕ) → high < low → positions_in low high values ≡ []
positions_in_none low high values none =
    filter-none (λ place. is_within low high (slice_index values place)) (λ place. is_within-none low high (slice_index values place) none) (places (length values))
