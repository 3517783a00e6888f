-- Places in lists that are seen in another way, or side by side.
use Rattle.std.proofs.Common.{◌≡◌, ◌<◌, ◌≤◌, ℕ, zero, suc, ◌+◌, Bool, not, List, [], ◌∷◌, ◌++◌, length, take, get_or, map, drop, refl, ap, sym, ◌∙◌, cond, nat_lt, arith}
use Rattle.std.specs.Prelude.{Option, Some, None}
use Rattle.std.specs.List.{position, position_or_len, prefix_len, zip}
use Rattle.std.proofs.lemmas.List.{length-map, map-append, append_assoc, take_more, drop_more, get_or-map}

prefix_len-map : {A B : Type 0} (test : B → Bool) (see : A → B) (xs : List A) → prefix_len test (map see xs) ≡ prefix_len (λ x. test (see x)) xs
prefix_len-map test see [] = refl
prefix_len-map test see (x ∷ xs) = ap (λ more. cond (test (see x)) (1 + more) 0) (prefix_len-map test see xs)

abbrev at_most : ℕ → ℕ → Option ℕ
at_most place count = cond (nat_lt place count) (Some place) None

-- the first place that passes, of what is seen
pub position-map : {A B : Type 0} (test : B → Bool) (see : A → B) (xs : List A) → position test (map see xs) ≡ position (λ x. test (see x)) xs
position-map test see xs =
    ap (λ place. at_most place (length (map see xs))) (prefix_len-map (λ b. not (test b)) see xs)
    ∙ ap (at_most (position_or_len (λ x. test (see x)) xs)) (length-map xs see)

-- two lists side by side
zip_get : {A B : Type 0} (xs : List A) (ys : List B) (i : ℕ) (x : A) (y : B) → i < length xs → i < length ys → get_or (zip xs ys) i (x, y) ≡ (get_or xs i x, get_or ys i y)
zip_get [] ys i x y within within_too = absurd (omega (arith, within))
zip_get (a ∷ xs) [] i x y within within_too = absurd (omega (arith, within_too))
zip_get (a ∷ xs) (b ∷ ys) zero x y within within_too = refl
zip_get (a ∷ xs) (b ∷ ys) (suc i) x y within within_too = zip_get xs ys i x y (omega (arith, within)) (omega (arith, within_too))

zip_within : {A B : Type 0} (xs : List A) (ys : List B) (i : ℕ) → i < length xs → i < length ys → i < length (zip xs ys)
zip_within [] ys i within within_too = absurd (omega (arith, within))
zip_within (a ∷ xs) [] i within within_too = absurd (omega (arith, within_too))
zip_within (a ∷ xs) (b ∷ ys) zero within within_too = omega arith
zip_within (a ∷ xs) (b ∷ ys) (suc i) within within_too = omega (arith, zip_within xs ys i (omega (arith, within)) (omega (arith, within_too)))

pub zip_past : {A B : Type 0} (xs : List A) (ys : List B) (i : ℕ) → length ys ≤ i → length (zip xs ys) ≤ i
zip_past [] ys i past = omega arith
zip_past (a ∷ xs) [] i past = omega arith
zip_past (a ∷ xs) (b ∷ ys) zero past = absurd (omega (arith, past))
zip_past (a ∷ xs) (b ∷ ys) (suc i) past = omega (arith, zip_past xs ys i (omega (arith, past)))

-- both from a place on
zip_from : {A B : Type 0} (xs : List A) (ys : List B) (i : ℕ) (x : A) (y : B) → i < length xs → i < length ys → x ≡ get_or xs i x → y ≡ get_or ys i y
    → drop i (zip xs ys) ≡ (x, y) ∷ drop (i + 1) (zip xs ys)
zip_from {A} {B} xs ys i x y within within_too is is_too =
    drop_more (zip xs ys) i (x, y) (zip_within xs ys i within within_too)
    ∙ ap (λ (one : A × B). one ∷ drop (i + 1) (zip xs ys)) (zip_get xs ys i x y within within_too)
    ∙ ap (λ (one : A). (one, get_or ys i y) ∷ drop (i + 1) (zip xs ys)) (sym is)
    ∙ ap (λ (one : B). (x, one) ∷ drop (i + 1) (zip xs ys)) (sym is_too)

-- the same of what is seen of the first list
pub next_named : {X A B : Type 0} (see : X → A) (xs : List X) (ys : List B) (i : ℕ) (x : X) (y : B) → i < length xs → i < length ys → x ≡ get_or xs i x → y ≡ get_or ys i y
    → drop i (zip (map see xs) ys) ≡ (see x, y) ∷ drop (i + 1) (zip (map see xs) ys)
next_named see xs ys i x y within within_too is is_too =
    zip_from (map see xs) ys i (see x) y (rw (length-map xs see) within) within_too (ap see is ∙ sym (get_or-map see xs i x (see x) within)) is_too

-- an item that is there is the same whatever would stand for one that is not
pub get_or_same : {A : Type 0} (xs : List A) (i : ℕ) (d e : A) → i < length xs → get_or xs i d ≡ get_or xs i e
get_or_same [] i d e within = absurd (omega (arith, within))
get_or_same (x ∷ xs) zero d e within = refl
get_or_same (x ∷ xs) (suc i) d e within = get_or_same xs i d e (omega (arith, within))

-- what is seen of a list that gets one more item
pub pushed : {A B C : Type 0} (f : A → C) (g : B → C) (before : List A) (one : A) (base : List C) (more : List B) (i : ℕ) (item : B) → i < length more → item ≡ get_or more i item
    → f one ≡ g item → map f before ≡ base ++ map g (take i more) → map f (before ++ one ∷ []) ≡ base ++ map g (take (i + 1) more)
pushed f g before one base more i item within is same so_far =
    map-append f before (one ∷ [])
    ∙ ap (λ front. front ++ f one ∷ []) so_far
    ∙ append_assoc base (map g (take i more)) (f one ∷ [])
    ∙ ap (λ back. base ++ back)
    (ap (λ last. map g (take i more) ++ last ∷ []) same
    ∙ sym (map-append g (take i more) (item ∷ []))
    ∙ ap (map g) (sym (take_more more i item within ∙ ap (λ last. take i more ++ last ∷ []) (sym is))))
