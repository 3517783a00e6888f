-- Maps, flat maps and tests in a row, and reading a list at its places.
use Rattle.std.proofs.Common.{◌≡◌, ℕ, zero, suc, ◌+◌, Bool, true, false, cond, List, [], ◌∷◌, ◌++◌, map, length, get_or, refl, sym, ap, ◌∙◌, subst, All, add-one}
use Rattle.std.specs.Prelude.{◌&&◌, flat_map, filter}
use Rattle.std.specs.List.{range_with_len, list_all}
use Rattle.std.proofs.lemmas.List.{map-append, map-id, append_assoc}
use Rattle.std.proofs.lemmas.List.Elements.{All-head, All-tail, All-cons, All-nil, filter_agree}
use Rattle.std.proofs.lemmas.List.Concat.{flat_map-append}
use Rattle.std.proofs.lemmas.List.Folds.{flat_map-map}
use Rattle.definitions_operators.specs.Operators.{places, places_where}
use Rattle.definitions_operators.proofs.ListLaws.{filter-map}

pub map-map : {A B C : Type 0} (g : B → C) (f : A → B) (xs : List A) → map g (map f xs) ≡ map (λ x. g (f x)) xs
map-map g f [] = refl
map-map g f (x ∷ xs) = ap (λ l. g (f x) ∷ l) (map-map g f xs)

pub map-same : {A B : Type 0} (P : A → Type 0) (f g : A → B) → ((x : A) → P x → f x ≡ g x) → (xs : List A) → All P xs → map f xs ≡ map g xs
map-same P f g same [] all = refl
map-same P f g same (x ∷ xs) all =
    ap (λ y. y ∷ map f xs) (same x (All-head P x xs all)) ∙ ap (λ l. g x ∷ l) (map-same P f g same xs (All-tail P x xs all))

pub flat_map-same : {A B : Type 0} (P : A → Type 0) (f g : A → List B) → ((x : A) → P x → f x ≡ g x) → (xs : List A) → All P xs → flat_map f xs ≡ flat_map g xs
flat_map-same P f g same [] all = refl
flat_map-same P f g same (x ∷ xs) all =
    ap (λ l. l ++ flat_map f xs) (same x (All-head P x xs all)) ∙ ap (λ l. g x ++ l) (flat_map-same P f g same xs (All-tail P x xs all))

pub flat_map-each : {A B : Type 0} (f g : A → List B) → ((x : A) → f x ≡ g x) → (xs : List A) → flat_map f xs ≡ flat_map g xs
flat_map-each f g same [] = refl
flat_map-each f g same (x ∷ xs) = ap (λ l. l ++ flat_map f xs) (same x) ∙ ap (λ l. g x ++ l) (flat_map-each f g same xs)

pub map-flat_map : {A B C : Type 0} (g : B → C) (f : A → List B) (xs : List A) → map g (flat_map f xs) ≡ flat_map (λ x. map g (f x)) xs
map-flat_map g f [] = refl
map-flat_map g f (x ∷ xs) = map-append g (f x) (flat_map f xs) ∙ ap (λ l. map g (f x) ++ l) (map-flat_map g f xs)

pub flat_map-flat_map : {A B C : Type 0} (g : B → List C) (f : A → List B) (xs : List A) → flat_map g (flat_map f xs) ≡ flat_map (λ x. flat_map g (f x)) xs
flat_map-flat_map g f [] = refl
flat_map-flat_map g f (x ∷ xs) = flat_map-append g (f x) (flat_map f xs) ∙ ap (λ l. flat_map g (f x) ++ l) (flat_map-flat_map g f xs)

pub flat_map-none : {A B : Type 0} (xs : List A) → flat_map (λ x. let none : List B = [] in none) xs ≡ []
flat_map-none [] = refl
flat_map-none (x ∷ xs) = flat_map-none xs

pub filter-filter : {A : Type 0} (p q : A → Bool) (xs : List A) → filter q (filter p xs) ≡ filter (λ x. p x && q x) xs
filter-filter p q [] = refl
filter-filter p q (x ∷ xs) =
    let both = filter (λ x. p x && q x) xs in
    elim (p x) as (λ b. filter q (cond b (x ∷ filter p xs) (filter p xs)) ≡ cond (b && q x) (x ∷ both) both) [
      | true ↦ ap (λ l. cond (q x) (x ∷ l) l) (filter-filter p q xs)
      | false ↦ filter-filter p q xs
    ]

pub flat_map-filter : {A B : Type 0} (f : A → List B) (q : A → Bool) (xs : List A) → flat_map f (filter q xs) ≡ flat_map (λ x. cond (q x) (f x) []) xs
flat_map-filter f q [] = refl
flat_map-filter f q (x ∷ xs) =
    (elim (q x) as (λ b. flat_map f (cond b (x ∷ filter q xs) (filter q xs)) ≡ cond b (f x) [] ++ flat_map f (filter q xs)) [ true ↦ refl | false ↦ refl ])
    ∙ ap (λ l. cond (q x) (f x) [] ++ l) (flat_map-filter f q xs)

-- what the tests of a list, one after the other, leave
unfoldable pub kept : {T X : Type 0} → (T → X → Bool) → List T → List X → List X
kept test [] xs = xs
kept test (t ∷ ts) xs = kept test ts (filter (test t) xs)

filter-true : {X : Type 0} (xs : List X) → filter (λ x. true) xs ≡ xs
filter-true [] = refl
filter-true (x ∷ xs) = ap (λ l. x ∷ l) (filter-true xs)

pub kept-filter : {T X : Type 0} (test : T → X → Bool) (ts : List T) (xs : List X) → kept test ts xs ≡ filter (λ x. list_all (λ t. test t x) ts) xs
unfolding kept
kept-filter test [] xs = sym (filter-true xs)
kept-filter test (t ∷ ts) xs = kept-filter test ts (filter (test t) xs) ∙ filter-filter (test t) (λ x. list_all (λ t. test t x) ts) xs

pub All-kept : {T X : Type 0} (P : X → Type 0) (test : T → X → Bool) (ts : List T) (xs : List X) → All P xs → All P (kept test ts xs)
All-kept P test ts xs all =
    subst (All P) (sym (kept-filter test ts xs)) (Rattle.std.proofs.lemmas.List.Elements.All-filter (λ x. list_all (λ t. test t x) ts) P xs all)

range_shift : (a n : ℕ) → range_with_len (a + 1) n ≡ map suc (range_with_len a n)
range_shift a zero = refl
range_shift a (suc n) = ap (λ k. k ∷ range_with_len (a + 1 + 1) n) (add-one a) ∙ ap (λ l. suc a ∷ l) (range_shift (a + 1) n)

-- a list is what stands at its places
pub read-places : {X : Type 0} (d : X) (xs : List X) → map (λ place. get_or xs place d) (places (length xs)) ≡ xs
read-places d [] = refl
read-places d (x ∷ xs) =
    ap (λ l. x ∷ map (λ place. get_or (x ∷ xs) place d) l) (range_shift 0 (length xs))
    ∙ ap (λ l. x ∷ l) (map-map (λ place. get_or (x ∷ xs) place d) suc (places (length xs)) ∙ read-places d xs)

pub read-places-where : {X : Type 0} (d : X) (q : X → Bool) (xs : List X) → map (λ place. get_or xs place d) (places_where (λ place. q (get_or xs place d)) (length xs)) ≡ filter q xs
read-places-where d q xs =
    sym (filter-map q (λ place. get_or xs place d) (places (length xs))) ∙ ap (filter q) (read-places d xs)

pub read-places-flat : {X B : Type 0} (d : X) (f : X → List B) (xs : List X) → flat_map (λ place. f (get_or xs place d)) (places (length xs)) ≡ flat_map f xs
read-places-flat d f xs =
    sym (flat_map-map f (λ place. get_or xs place d) (places (length xs))) ∙ ap (flat_map f) (read-places d xs)
