-- What holds of each item of a list.
use Rattle.std.proofs.Common.{◌≡◌, ℕ, zero, suc, List, [], ◌∷◌, ◌++◌, length, Some, refl, arith, take, drop, drop_of_length-le}
use Rattle.std.proofs.lemmas.List.{append-nil, take_all}
use Rattle.std.specs.Prelude.{slice_get}
use Rattle.std.specs.List.{AllByRecursion}
use Rattle.std.proofs.lemmas.Option.{same_Some}

pub all_push : {A : Type 0} (P : A → Type 0) (items : List A) (item : A) → AllByRecursion P items → P item → AllByRecursion P (items ++ item ∷ [])
all_push P [] item all one = (one, tt)
all_push P (first ∷ items) item all one = (all.0, all_push P items item all.1 one)

pub all_at : {A : Type 0} (P : A → Type 0) (items : List A) (place : ℕ) (item : A) → AllByRecursion P items → slice_get items place ≡ Some item → P item
all_at P [] place item all is = absurd (cc is)
all_at P (first ∷ items) zero item all is = rw (← same_Some first item is) all.0
all_at P (first ∷ items) (suc place) item all is = all_at P items place item all.1 is

pub all_from_places : {A : Type 0} (P : A → Type 0) (items : List A) → ((place : ℕ) (item : A) → slice_get items place ≡ Some item → P item) → AllByRecursion P items
all_from_places P [] at = tt
all_from_places P (first ∷ items) at = (at 0 first refl, all_from_places P items (λ place item is. at (suc place) item is))

-- the item before the rest
pub all_middle : {A : Type 0} (P : A → Type 0) (front : List A) (item : A) (rest : List A) → AllByRecursion P (front ++ item ∷ rest) → P item
all_middle P [] item rest all = all.0
all_middle P (first ∷ front) item rest all = all_middle P front item rest all.1

-- a list that was lent out whole and came back
pub handed_back : {A : Type 0} (count : ℕ) (now items : List A) → length now ≡ length items → count ≡ length items → take count (now ++ drop (length now) items) ≡ now
handed_back count now items same whole =
    rw (drop_of_length-le items {i = length now} (omega (arith, same)), append-nil now) (take_all count now (omega (arith, same, whole)))
