-- What stands in a list and what does not, and lists in which nothing stands twice.
use Rattle.std.proofs.Common.{◌≡◌, ◌≢◌, ◌<◌, ℕ, zero, suc, Bool, true, List, [], ◌∷◌, length, ◌⊎◌, inl, inr, refl, ap, ◌∙◌, subst, arith}
use Rattle.std.proofs.lemmas.Bool.{cases_Bool}
use Rattle.std.specs.Prelude.{filter, get_or, slice_get, IsSome}
use Rattle.std.specs.List.{AllByRecursion, AllPairs, Contains}

-- an item is in a list, or is not; nothing stands twice
abbrev pub Among : {A : Type 0} → A → List A → Type 0
Among x [] = ⊥
Among x (item ∷ items) = (item ≡ x) ⊎ Among x items

abbrev pub Lacks : {A : Type 0} → A → List A → Type 0
Lacks x items = AllByRecursion (λ item. item ≢ x) items

abbrev pub AreApart : {A : Type 0} → List A → Type 0
AreApart [] = Unit {0}
AreApart (item ∷ items) = AllByRecursion (λ other. other ≢ item) items × AreApart items

pub among_or_lacks : {A : Type 0} → ((a b : A) → (a ≡ b) ⊎ (a ≢ b)) → (x : A) (items : List A) → Among x items ⊎ Lacks x items
among_or_lacks decide x [] = inr tt
among_or_lacks decide x (item ∷ items) = elim (decide item x) [
  | inl same ↦ inl (inl same)
  | inr apart ↦ elim (among_or_lacks decide x items) [
    | inl among ↦ inl (inr among)
    | inr lacks ↦ inr (apart, lacks)
  ]
]

pub all_among : {A : Type 0} (P : A → Type 0) (x : A) (items : List A) → AllByRecursion P items → Among x items → P x
all_among P x [] all among = absurd among
all_among P x (item ∷ items) all (inl same) = subst P same all.0
all_among P x (item ∷ items) all (inr among) = all_among P x items all.1 among

pub all_from : {A : Type 0} (P : A → Type 0) (items : List A) → ((x : A) → Among x items → P x) → AllByRecursion P items
all_from P [] each = tt
all_from P (item ∷ items) each = (each item (inl refl), all_from P items (λ x among. each x (inr among)))

pub all_weaker : {A : Type 0} (P Q : A → Type 0) → ((x : A) → P x → Q x) → (items : List A) → AllByRecursion P items → AllByRecursion Q items
all_weaker P Q weaker [] all = tt
all_weaker P Q weaker (item ∷ items) all = (weaker item all.0, all_weaker P Q weaker items all.1)

pub not_both : {A : Type 0} (x : A) (items : List A) → Among x items → Lacks x items → ⊥
not_both x [] among lacks = among
not_both x (item ∷ items) (inl same) lacks = lacks.0 same
not_both x (item ∷ items) (inr among) lacks = not_both x items among lacks.1

-- the same by index
pub contains_among : {A : Type 0} (x : A) (items : List A) → Contains items x → Among x items
contains_among x [] (place, within, is) = absurd (omega (arith, within))
contains_among x (item ∷ items) (zero, within, is) = inl is
contains_among x (item ∷ items) (suc place, within, is) = inr (contains_among x items (place, omega (arith, within), is))

pub among_contains : {A : Type 0} (x : A) (items : List A) → Among x items → Contains items x
among_contains x [] among = absurd among
among_contains x (item ∷ items) (inl same) = (zero, omega arith, same)
among_contains x (item ∷ items) (inr among) =
    let (place, within, is) = among_contains x items among in (suc place, omega (arith, within), is)

-- what is not contained is lacking
pub lacks_from : {A : Type 0} (x : A) (items : List A) → (Contains items x → ⊥) → Lacks x items
lacks_from x items none = all_from (λ item. item ≢ x) items (λ item among same. none (among_contains x items (subst (λ y. Among y items) same among)))

-- what is filtered
pub among_filter : {A : Type 0} (test : A → Bool) (x : A) (items : List A) → Among x items → test x ≡ true → Among x (filter test items)
among_filter test x [] among passes = among
among_filter test x (item ∷ items) (inl same) passes =
    let here : test item ≡ true = ap test same ∙ passes in
    rw here (inl same)
among_filter test x (item ∷ items) (inr among) passes = elim (cases_Bool (test item)) [
  | inl kept ↦ rw kept (inr (among_filter test x items among passes))
  | inr dropped ↦ rw dropped (among_filter test x items among passes)
]

pub filter_among : {A : Type 0} (test : A → Bool) (x : A) (items : List A) → Among x (filter test items) → Among x items
filter_among test x [] among = among
filter_among test x (item ∷ items) among = elim (cases_Bool (test item)) [
  | inl kept ↦ elim (rw kept at among) [
    | inl same ↦ inl same
    | inr rest ↦ inr (filter_among test x items rest)
  ]
  | inr dropped ↦ inr (filter_among test x items (rw dropped at among))
]

pub all_filter : {A : Type 0} (P : A → Type 0) (test : A → Bool) (items : List A) → AllByRecursion P items → AllByRecursion (λ x. P x × (test x ≡ true)) (filter test items)
all_filter P test [] all = tt
all_filter P test (item ∷ items) all = elim (cases_Bool (test item)) [
  | inl kept ↦ rw kept ((all.0, kept), all_filter P test items all.1)
  | inr dropped ↦ rw dropped (all_filter P test items all.1)
]

pub lacks_filter : {A : Type 0} (test : A → Bool) (x : A) (items : List A) → Lacks x items → Lacks x (filter test items)
lacks_filter test x items lacks = all_weaker (λ item. (item ≢ x) × (test item ≡ true)) (λ item. item ≢ x) (λ item p. p.0) (filter test items) (all_filter (λ item. item ≢ x) test items lacks)

pub apart_filter : {A : Type 0} (test : A → Bool) (items : List A) → AreApart items → AreApart (filter test items)
apart_filter test [] apart = tt
apart_filter test (item ∷ items) apart = elim (cases_Bool (test item)) [
  | inl kept ↦ rw kept (lacks_filter test item items apart.0, apart_filter test items apart.1)
  | inr dropped ↦ rw dropped (apart_filter test items apart.1)
]

-- what rises strictly stands apart
pub pairs_rest : {A : Type 0} (R : A → A → Type 0) (item : A) (items : List A) → AllPairs R (item ∷ items) → AllPairs R items
pairs_rest R item items pairs = λ i j d before within. pairs (suc i) (suc j) d (omega (arith, before)) (omega (arith, within))

all_at : {A : Type 0} (P : A → Type 0) (items : List A) → ((place : ℕ) (d : A) → place < length items → P (get_or items place d)) → AllByRecursion P items
all_at P [] each = tt
all_at P (item ∷ items) each = (each zero item (omega arith), all_at P items (λ place d within. each (suc place) d (omega (arith, within))))

pub pairs_first : {A : Type 0} (R : A → A → Type 0) (item : A) (items : List A) → AllPairs R (item ∷ items) → AllByRecursion (R item) items
pairs_first R item items pairs = all_at (R item) items (λ place d within. pairs zero (suc place) d (omega arith) (omega (arith, within)))

pub rising_apart : {A : Type 0} (R : A → A → Type 0) → ((a : A) → R a a → ⊥) → (items : List A) → AllPairs R items → AreApart items
rising_apart R strict [] pairs = tt
rising_apart R strict (item ∷ items) pairs = (
  all_weaker (R item) (λ other. other ≢ item) (λ other rises same. strict item (subst (R item) same rises)) items (pairs_first R item items pairs),
  rising_apart R strict items (pairs_rest R item items pairs),
)

-- an item stands at each place of a list
pub some_within : {A : Type 0} (items : List A) (place : ℕ) → place < length items → IsSome (slice_get items place)
some_within [] place within = absurd (omega (arith, within))
some_within (item ∷ items) zero within = refl
some_within (item ∷ items) (suc place) within = some_within items place (omega (arith, within))
