-- One item of a list is changed, and the others stay.
use Rattle.std.proofs.Common.{◌≡◌, ◌≢◌, ◌∙◌, ℕ, zero, suc, ◌<◌, List, [], ◌∷◌, Option, Some, None, map, length, refl, sym, ap, subst, arith}
use Rattle.std.specs.Prelude.{option_map, slice_get, slice_set, IsSome}
use Rattle.std.specs.List.{AllByRecursion}
use Rattle.definitions_outcomes.specs.Computed.{and_then}
use Rattle.table_core.specs.Tables.{map_at}

-- ---- the item at a place

pub some_of_within : {A : Type 0} (items : List A) (place : ℕ) → place < length items → (item : A) × (slice_get items place ≡ Some item)
some_of_within [] place within = absurd (omega (arith, within))
some_of_within (item ∷ items) zero within = (item, refl)
some_of_within (item ∷ items) (suc place) within = some_of_within items place (omega (arith, within))

pub slice_get-map_at : {A : Type 0} (change : A → A) (items : List A) (place : ℕ) → slice_get (map_at change items place) place ≡ option_map change (slice_get items place)
slice_get-map_at change [] place = refl
slice_get-map_at change (item ∷ items) zero = refl
slice_get-map_at change (item ∷ items) (suc place) = slice_get-map_at change items place

pub slice_get-map_at_other : {A : Type 0} (change : A → A) (items : List A) (place other : ℕ) → other ≢ place → slice_get (map_at change items place) other ≡ slice_get items other
slice_get-map_at_other change [] place other apart = refl
slice_get-map_at_other change (item ∷ items) zero zero apart = absurd (apart refl)
slice_get-map_at_other change (item ∷ items) zero (suc other) apart = refl
slice_get-map_at_other change (item ∷ items) (suc place) zero apart = refl
slice_get-map_at_other change (item ∷ items) (suc place) (suc other) apart = slice_get-map_at_other change items place other (λ same. apart (ap (λ n. suc n) same))

pub slice_get-set : {A : Type 0} (items : List A) (place : ℕ) (before item : A) → slice_get items place ≡ Some before → slice_get (slice_set items place item) place ≡ Some item
slice_get-set [] place before item there = cc
slice_get-set (first ∷ items) zero before item there = refl
slice_get-set (first ∷ items) (suc place) before item there = slice_get-set items place before item there

pub slice_get-set_other : {A : Type 0} (items : List A) (place other : ℕ) (item : A) → other ≢ place → slice_get (slice_set items place item) other ≡ slice_get items other
slice_get-set_other [] place other item apart = refl
slice_get-set_other (first ∷ items) zero zero item apart = absurd (apart refl)
slice_get-set_other (first ∷ items) zero (suc other) item apart = refl
slice_get-set_other (first ∷ items) (suc place) zero item apart = refl
slice_get-set_other (first ∷ items) (suc place) (suc other) item apart = slice_get-set_other items place other item (λ same. apart (ap (λ n. suc n) same))

-- a part that the change keeps is kept everywhere
pub map_at_keeps : {A B : Type 0} (change : A → A) (part : A → Option B) → ((item : A) → part (change item) ≡ part item) → (items : List A) (place other : ℕ)
    → and_then (slice_get (map_at change items place) other) part ≡ and_then (slice_get items other) part
map_at_keeps change part same [] place other = refl
map_at_keeps change part same (item ∷ items) zero zero = same item
map_at_keeps change part same (item ∷ items) zero (suc other) = refl
map_at_keeps change part same (item ∷ items) (suc place) zero = refl
map_at_keeps change part same (item ∷ items) (suc place) (suc other) = map_at_keeps change part same items place other

-- and so is what the items show, if the change keeps it
pub map-map_at : {A B : Type 0} (change : A → A) (part : A → B) → ((item : A) → part (change item) ≡ part item) → (items : List A) (place : ℕ) → map part (map_at change items place) ≡ map part items
map-map_at change part same [] place = refl
map-map_at change part same (item ∷ items) zero = ap (λ one. one ∷ map part items) (same item)
map-map_at change part same (item ∷ items) (suc place) = ap (λ rest. part item ∷ rest) (map-map_at change part same items place)

-- a change past the end, or one that does nothing at its place, does nothing
pub map_at_same : {A : Type 0} (change : A → A) (items : List A) (place : ℕ) → ((item : A) → slice_get items place ≡ Some item → change item ≡ item) → map_at change items place ≡ items
map_at_same change [] place same = refl
map_at_same change (item ∷ items) zero same = ap (λ one. one ∷ items) (same item refl)
map_at_same change (item ∷ items) (suc place) same = ap (λ rest. item ∷ rest) (map_at_same change items place same)

-- an item that is written is one that is changed, in what is seen of the items
pub map-set : {A B : Type 0} (see : A → B) (change : B → B) (items : List A) (place : ℕ) (before item : A) → slice_get items place ≡ Some before → see item ≡ change (see before)
    → map see (slice_set items place item) ≡ map_at change (map see items) place
map-set see change [] place before item there same = refl
map-set see change (first ∷ items) zero before item there same =
    let is : first ≡ before = cc in ap (λ one. one ∷ map see items) (same ∙ ap (λ one. change (see one)) (sym is))
map-set see change (first ∷ items) (suc place) before item there same = ap (λ rest. see first ∷ rest) (map-set see change items place before item there same)

-- ---- what holds of each item

pub all_at : {A : Type 0} (P : A → Type 0) (items : List A) (place : ℕ) (item : A) → AllByRecursion P items → slice_get items place ≡ Some item → P item
all_at P [] place item all there = absurd (cc)
all_at P (first ∷ items) zero item all there = let is : first ≡ item = cc in subst P is all.0
all_at P (first ∷ items) (suc place) item all there = all_at P items place item all.1 there

pub all_map_at : {A : Type 0} (P : A → Type 0) (change : A → A) (items : List A) (place : ℕ) → AllByRecursion P items → ((item : A) → slice_get items place ≡ Some item → P item → P (change item))
    → AllByRecursion P (map_at change items place)
all_map_at P change [] place all goes = tt
all_map_at P change (item ∷ items) zero all goes = (goes item refl all.0, all.1)
all_map_at P change (item ∷ items) (suc place) all goes = (all.0, all_map_at P change items place all.1 goes)

pub all_set : {A : Type 0} (P : A → Type 0) (items : List A) (place : ℕ) (item : A) → AllByRecursion P items → P item → AllByRecursion P (slice_set items place item)
all_set P [] place item all one = tt
all_set P (first ∷ items) zero item all one = (one, all.1)
all_set P (first ∷ items) (suc place) item all one = (all.0, all_set P items place item all.1 one)

pub all_weaker : {A : Type 0} (P Q : A → Type 0) → ((item : A) → P item → Q item) → (items : List A) → AllByRecursion P items → AllByRecursion Q items
all_weaker P Q weaker [] all = tt
all_weaker P Q weaker (item ∷ items) all = (weaker item all.0, all_weaker P Q weaker items all.1)

pub all_map : {A B : Type 0} (P : B → Type 0) (see : A → B) → ((item : A) → P (see item)) → (items : List A) → AllByRecursion P (map see items)
all_map P see each [] = tt
all_map P see each (item ∷ items) = (each item, all_map P see each items)

-- ---- steps that may give nothing

-- what the second step gave came from a first value
pub and_then_some : {A B : Type 0} (first : Option A) (next : A → Option B) (given : B) → and_then first next ≡ Some given → (value : A) × (first ≡ Some value) × (next value ≡ Some given)
and_then_some None next given gives = absurd (cc)
and_then_some (Some value) next given gives = (value, refl, gives)

pub is_some_value : {A : Type 0} (one : Option A) → IsSome one → (value : A) × (one ≡ Some value)
is_some_value None some = absurd (cc)
is_some_value (Some value) some = (value, refl)
