-- The pairs of a join, value by value.
use Rattle.std.proofs.Common.{◌≡◌, ◌∙◌, ap, ap₂, refl, sym, ℕ, zero, suc, ◌+◌, ◌*◌, ◌-◌, ◌<◌, ◌≤◌, Bool, false, cond, List, [], ◌∷◌, ◌++◌, length, take, drop, get_or, arith, subst, add-one, append_assoc, length-append}
use Rattle.std.specs.Prelude.{slice_index, filter, ◌==◌}
use Rattle.std.specs.List.{range_with_len}
use Rattle.std.proofs.lemmas.Bool.{eq-eqb, ne_eqb}
use Rattle.std.proofs.lemmas.List.{append-nil, map-append, length-map, length-take, take_more, take-append-drop}
use Rattle.definitions_blocks.specs.Blocks.{block_values, block_at}
use Rattle.definitions_operators.specs.Operators.{places_of}
use Rattle.scan_ops.proofs.ProjectLaws.{take-next}
use Rattle.join_ops.specs.KeyMaps.{IsNextLink}
use Rattle.join_ops.specs.Joins.{lefts_of, lefts_from, rights_from, places_from, linked_places, IsFrontOf}

-- # The places of one value

skip-range : (test : ℕ → Bool) (from n m total start : ℕ) → total ≡ n + m → start ≡ from + n → ((place : ℕ) → from ≤ place → place < start → test place ≡ false)
    → filter test (range_with_len from total) ≡ filter test (range_with_len start m)
skip-range test from zero m total start t s none =
    let here : from ≡ start = omega (arith, s) in
    let long : total ≡ m = omega (arith, t) in
    ap₂ (λ k n. filter test (range_with_len k n)) here long
skip-range test from (suc n) m total start t s none =
    let long : total ≡ suc (n + m) = omega (arith, t) in
    ap (λ k. filter test (range_with_len from k)) long
    ∙ ap (λ (b : Bool). cond b (from ∷ filter test (range_with_len (from + 1) (n + m))) (filter test (range_with_len (from + 1) (n + m)))) (none from (omega arith) (omega (arith, s)))
    ∙ skip-range test (from + 1) n m (n + m) start refl (omega (arith, s)) (λ place upto below. none place (omega arith) below)

-- a link from a place on names the first of the places from there on
pub places_from-link : (keys : List ℕ) (key from link : ℕ) → from ≤ length keys → IsNextLink keys key from link → places_from keys key from ≡ linked_places keys key link
places_from-link keys key from zero within is =
    skip-range (λ place. slice_index keys place == key) from (length keys - from) 0 (length keys - from) (length keys) (omega arith) (omega (arith, within))
    (λ place upto below. ne_eqb (slice_index keys place) key (is.none refl place upto below))
places_from-link keys key from (suc place) within is =
    let found = is.here place (omega arith) in
    let test : ℕ → Bool = λ p. slice_index keys p == key in
    let upto : from ≤ place = found.0 in
    let inside : place < length keys = found.1 in
    skip-range test from (place - from) (suc (length keys - suc place)) (length keys - from) place (omega (arith, upto, inside)) (omega (arith, upto))
    (λ p more below. ne_eqb (slice_index keys p) key (is.first p more (omega (arith, below))))
    ∙ ap (λ (b : Bool). cond b (place ∷ filter test (range_with_len (place + 1) (length keys - suc place))) (filter test (range_with_len (place + 1) (length keys - suc place)))) (eq-eqb (slice_index keys place) key found.2)
    ∙ ap (λ n. place ∷ filter test (range_with_len n (length keys - suc place))) (add-one place)

pub places_from-all : (keys : List ℕ) (key : ℕ) → places_from keys key 0 ≡ places_of keys key
places_from-all keys key = ap (λ n. filter (λ place. slice_index keys place == key) (range_with_len 0 n)) (omega arith)

-- the place of a link, and those behind it
pub linked-open : (keys : List ℕ) (key link : ℕ) → 0 < link → linked_places keys key link ≡ (link - 1) ∷ places_from keys key link
linked-open keys key link some =
    let e : link ≡ suc (link - 1) = omega (arith, some) in
    ap (linked_places keys key) e ∙ ap (λ n. (link - 1) ∷ places_from keys key n) (sym e)

-- the places behind a link are those of the next link
pub linked-next : (keys : List ℕ) (key link next : ℕ) → 0 < link → link - 1 < length keys → slice_index keys (link - 1) ≡ key → IsNextLink keys (slice_index keys (link - 1)) (link - 1 + 1) next
    → places_from keys key link ≡ linked_places keys key next
linked-next keys key link next some within same is =
    let at : link - 1 + 1 ≡ link = omega (arith, some) in
    places_from-link keys key link next (omega (arith, within)) (subst (λ n. IsNextLink keys key n next) at (subst (λ k. IsNextLink keys k (link - 1 + 1) next) same is))

-- # What was handed over

-- what was handed over of the pairs of a value, and what is left
pub record IsPaired (left left' right right' : List ℕ → Type 0) (place : ℕ) (rest whole : List ℕ) : Type 0 where
  pub done : List ℕ
  pub joins : done ++ rest ≡ whole
  pub to_left : (list : List ℕ) → left list → left' (list ++ lefts_of place done)
  pub to_right : (list : List ℕ) → right list → right' (list ++ done)

-- one more item goes on with a front
pub front_one : (list done rest whole : List ℕ) (item : ℕ) → done ++ (item ∷ rest) ≡ whole → IsFrontOf ((list ++ done) ++ item ∷ []) (list ++ whole)
front_one list done rest whole item joins = record {
  rest = rest;
  joins = append_assoc (list ++ done) (item ∷ []) rest ∙ append_assoc list done (item ∷ rest) ∙ ap (λ l. list ++ l) joins;
}

pub front_done : (list done rest whole : List ℕ) → done ++ rest ≡ whole → IsFrontOf (list ++ done) (list ++ whole)
front_done list done rest whole joins = record { rest = rest; joins = append_assoc list done rest ∙ ap (λ l. list ++ l) joins }

pub lefts-joins : (place : ℕ) (done rest whole : List ℕ) → done ++ rest ≡ whole → lefts_of place done ++ lefts_of place rest ≡ lefts_of place whole
lefts-joins place done rest whole joins = sym (map-append (λ (_ : ℕ). place) done rest) ∙ ap (lefts_of place) joins

pub one_more : (list done rest whole : List ℕ) (item : ℕ) → (list ++ done) ++ item ∷ [] ≡ list ++ (done ++ item ∷ [])
one_more list done rest whole item = append_assoc list done (item ∷ [])

pub lefts_from-append : (keys : List ℕ) (place : ℕ) (front back : List ℕ) → lefts_from keys place (front ++ back) ≡ lefts_from keys place front ++ lefts_from keys (place + length front) back
lefts_from-append keys place [] back = ap (λ n. lefts_from keys n back) (omega arith)
lefts_from-append keys place (value ∷ front) back =
    let pairs = lefts_of place (places_of keys value) in
    ap (λ l. pairs ++ l) (lefts_from-append keys (place + 1) front back ∙ ap (λ n. lefts_from keys (place + 1) front ++ lefts_from keys n back) (omega arith))
    ∙ sym (append_assoc pairs (lefts_from keys (place + 1) front) (lefts_from keys (place + length (value ∷ front)) back))

pub rights_from-append : (keys : List ℕ) (front back : List ℕ) → rights_from keys (front ++ back) ≡ rights_from keys front ++ rights_from keys back
rights_from-append keys [] back = refl
rights_from-append keys (value ∷ front) back =
    ap (λ l. places_of keys value ++ l) (rights_from-append keys front back) ∙ sym (append_assoc (places_of keys value) (rights_from keys front) (rights_from keys back))

-- one value more
pub lefts_from-more : (keys : List ℕ) (place i : ℕ) (values : List ℕ) → i < length values
    → lefts_from keys place (take i values) ++ lefts_of (place + i) (places_of keys (get_or values i 0)) ≡ lefts_from keys place (take (i + 1) values)
lefts_from-more keys place i values within =
    let long : place + length (take i values) ≡ place + i = omega (arith, length-take i values) in
    let one = lefts_of (place + i) (places_of keys (get_or values i 0)) in
    ap (λ l. lefts_from keys place (take i values) ++ l) (sym (append-nil one)) ∙ ap (λ n. lefts_from keys place (take i values) ++ lefts_from keys n (get_or values i 0 ∷ [])) (sym long)
    ∙ sym (lefts_from-append keys place (take i values) (get_or values i 0 ∷ [])) ∙ ap (lefts_from keys place) (sym (take_more values i 0 within))

pub rights_from-more : (keys : List ℕ) (i : ℕ) (values : List ℕ) → i < length values
    → rights_from keys (take i values) ++ places_of keys (get_or values i 0) ≡ rights_from keys (take (i + 1) values)
rights_from-more keys i values within =
    ap (λ l. rights_from keys (take i values) ++ l) (sym (append-nil (places_of keys (get_or values i 0)))) ∙ sym (rights_from-append keys (take i values) (get_or values i 0 ∷ []))
    ∙ ap (rights_from keys) (sym (take_more values i 0 within))

pub lefts_from-front : (keys : List ℕ) (place n : ℕ) (values list : List ℕ) → IsFrontOf (list ++ lefts_from keys place (take n values)) (list ++ lefts_from keys place values)
lefts_from-front keys place n values list =
    front_done list (lefts_from keys place (take n values)) (lefts_from keys (place + length (take n values)) (drop n values)) (lefts_from keys place values)
    (sym (lefts_from-append keys place (take n values) (drop n values)) ∙ ap (lefts_from keys place) (take-append-drop n values))

pub rights_from-front : (keys : List ℕ) (n : ℕ) (values list : List ℕ) → IsFrontOf (list ++ rights_from keys (take n values)) (list ++ rights_from keys values)
rights_from-front keys n values list =
    front_done list (rights_from keys (take n values)) (rights_from keys (drop n values)) (rights_from keys values)
    (sym (rights_from-append keys (take n values) (drop n values)) ∙ ap (rights_from keys) (take-append-drop n values))

-- the two lists of a join are as long as one another
pub join-lengths : (keys : List ℕ) (place : ℕ) (values : List ℕ) → length (lefts_from keys place values) ≡ length (rights_from keys values)
join-lengths keys place [] = refl
join-lengths keys place (value ∷ values) =
    let rest = join-lengths keys (place + 1) values in
    omega (arith, rest, length-append (lefts_of place (places_of keys value)) (lefts_from keys (place + 1) values), length-append (places_of keys value) (rights_from keys values), length-map (places_of keys value) (λ (_ : ℕ). place))

pub lefts_from-step : (keys : List ℕ) (number : ℕ) (values : List ℕ) → number * block_values ≤ length values
    → lefts_from keys 0 (take (number * block_values) values) ++ lefts_from keys (number * block_values) (block_at values number) ≡ lefts_from keys 0 (take ((number + 1) * block_values) values)
lefts_from-step keys number values within =
    let at = number * block_values in
    let before = lefts_from keys 0 (take at values) in
    let long : 0 + length (take at values) ≡ at = omega (arith, length-take at values) in
    let next : at + block_values ≡ (number + 1) * block_values = omega arith in
    ap (λ n. before ++ lefts_from keys n (block_at values number)) (sym long) ∙ sym (lefts_from-append keys 0 (take at values) (block_at values number))
    ∙ ap (lefts_from keys 0) (take-next number values)

pub rights_from-step : (keys : List ℕ) (number : ℕ) (values : List ℕ)
    → rights_from keys (take (number * block_values) values) ++ rights_from keys (block_at values number) ≡ rights_from keys (take ((number + 1) * block_values) values)
rights_from-step keys number values =
    let at = number * block_values in
    let next : at + block_values ≡ (number + 1) * block_values = omega arith in
    sym (rights_from-append keys (take at values) (block_at values number)) ∙ ap (rights_from keys) (take-next number values)
