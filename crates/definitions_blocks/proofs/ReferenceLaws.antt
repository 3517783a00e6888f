-- Frames of reference: the least value, the differences to it, and that both are those of one block at most.
use Rattle.std.proofs.Common.{◌≡◌, ℕ, zero, suc, ◌+◌, ◌-◌, ◌^◌, ◌<◌, ◌≤◌, min, List, [], ◌∷◌, length, map, get_or, refl, sym, ap, ◌∙◌, inl, inr, arith}
use Rattle.std.specs.Prelude.{fold}
use Rattle.std.specs.List.{AllByRecursion}
use Rattle.std.proofs.lemmas.Bool.{cases_lt}
use Rattle.std.proofs.lemmas.Grind.{get_or_default_zero}
use Rattle.std.proofs.lemmas.List.{ext_get_or, get_or-map, length-map}
use Rattle.definitions_blocks.specs.Words.{IsWord}
use Rattle.definitions_blocks.specs.Blocks.{IsFull, block_values}
use Rattle.definitions_blocks.specs.Differences.{wrapped_sum, least_of, reference_of, raised, AreReferenceDifferences, HoldsOfOneBlock}
use Rattle.definitions_blocks.specs.Packings.{IsTransform}
use Rattle.definitions_blocks.proofs.WordListLaws.{words_at}

-- the least value: no value is below it, and it is one of them
least_below : (a : ℕ) (values : List ℕ) → fold min a values ≤ a
least_below a [] = omega arith
least_below a (v ∷ values) = let rest : fold min (min a v) values ≤ min a v = least_below (min a v) values in omega arith

least_each : (a : ℕ) (values : List ℕ) (i : ℕ) → i < length values → fold min a values ≤ get_or values i 0
least_each a [] i within = absurd (omega arith)
least_each a (v ∷ values) zero within = let rest : fold min (min a v) values ≤ min a v = least_below (min a v) values in omega arith
least_each a (v ∷ values) (suc i) within = least_each (min a v) values i (omega arith)

pub least_of-le : (values : List ℕ) (i : ℕ) → i < length values → least_of values ≤ get_or values i 0
least_of-le [] i within = absurd (omega arith)
least_of-le (v ∷ values) zero within = least_below v values
least_of-le (v ∷ values) (suc i) within = least_each v values i (omega arith)

-- a value stands at this place
pub record IsAt (values : List ℕ) (value place : ℕ) : Type 0 where
  pub within : place < length values
  pub is : get_or values place 0 ≡ value

least_step : (a v least : ℕ) (values : List ℕ) (place : ℕ) → IsAt (min a v ∷ values) least place → (p : ℕ) × IsAt (a ∷ v ∷ values) least p
least_step a v least values zero at =
    let e : min a v ≡ least = at.is in
    elim (cases_lt a v) [
      | inl low ↦ (0, record { within = omega arith; is = omega arith })
      | inr high ↦ (1, record { within = omega arith; is = omega arith })
    ]
least_step a v least values (suc place) at = (suc (suc place), record { within = let p : suc place < length (min a v ∷ values) = at.within in omega arith; is = at.is })

least_met : (a : ℕ) (values : List ℕ) → (place : ℕ) × IsAt (a ∷ values) (fold min a values) place
least_met a [] = (0, record { within = omega arith; is = refl })
least_met a (v ∷ values) = let met = least_met (min a v) values in least_step a v (fold min (min a v) values) values met.0 met.1

pub least_of-at : (values : List ℕ) → 0 < length values → (place : ℕ) × IsAt values (least_of values) place
least_of-at [] some = absurd (omega arith)
least_of-at (v ∷ values) some = least_met v values

pub least_of-is : (values : List ℕ) (least place : ℕ) → IsAt values least place → ((i : ℕ) → i < length values → least ≤ get_or values i 0) → least ≡ least_of values
least_of-is values least place at each =
    let met = least_of-at values (omega (arith, at.within)) in
    let up : least_of values ≤ get_or values place 0 = least_of-le values place at.within in
    let down : least ≤ get_or values met.0 0 = each met.0 met.1.within in
    omega (arith, at.is, met.1.is)

pub least_of-word : (values : List ℕ) → IsFull values → least_of values < 2 ^ 64
least_of-word values is =
    let met = least_of-at values (omega (arith, is.whole)) in
    let at = words_at values is.words met.0 in
    omega (arith, met.1.is)

pub reference_of-at : (values : List ℕ) (i : ℕ) → i < length values → get_or (reference_of values) i 0 ≡ get_or values i 0 - least_of values
reference_of-at values i within = get_or-map (λ value. value - least_of values) values i 0 0 within

pub reference_of-is : (least : ℕ) (values ds : List ℕ) → least ≡ least_of values → length ds ≡ length values → ((i : ℕ) → i < length values → get_or ds i 0 ≡ get_or values i 0 - least) → ds ≡ reference_of values
reference_of-is least values ds e same each =
    let long : length (reference_of values) ≡ length values = length-map values (λ value. value - least_of values) in
    ext_get_or 0 ds (reference_of values) (omega arith) (λ i within. each i (omega arith) ∙ ap (λ m. get_or values i 0 - m) e ∙ sym (reference_of-at values i (omega arith)))

words_map : (f : ℕ → ℕ) (values : List ℕ) → ((i : ℕ) → i < length values → f (get_or values i 0) < 2 ^ 64) → AllByRecursion IsWord (map f values)
words_map f [] small = tt
words_map f (v ∷ values) small = (small 0 (omega arith), words_map f values (λ i within. small (suc i) (omega arith)))

pub reference_of-full : (values : List ℕ) → IsFull values → IsFull (reference_of values)
reference_of-full values is = record {
  whole = length-map values (λ value. value - least_of values) ∙ is.whole;
  words = words_map (λ value. value - least_of values) values (λ i within. let word = words_at values is.words i in omega arith);
}

pub raised-reference_of : (base : ℕ) (values : List ℕ) → IsFull values → base ≡ least_of values → raised base (reference_of values) ≡ values
raised-reference_of base values is e =
    let ds = reference_of values in
    let long : length ds ≡ length values = length-map values (λ value. value - least_of values) in
    let all : length (raised base ds) ≡ length ds = length-map ds (λ d. wrapped_sum d base) in
    ext_get_or 0 (raised base ds) values (omega arith) (λ i within.
    let word = words_at values is.words i in
    let low : least_of values ≤ get_or values i 0 = least_of-le values i (omega arith) in
    let back : wrapped_sum (get_or values i 0 - least_of values) base ≡ get_or values i 0 = omega arith in
    get_or-map (λ d. wrapped_sum d base) ds i 0 0 (omega arith) ∙ ap (λ d. wrapped_sum d base) (reference_of-at values i (omega arith)) ∙ back)

pub reference_of-join : (values others : List ℕ) → IsFull values → IsFull others → least_of values ≡ least_of others → reference_of values ≡ reference_of others → values ≡ others
reference_of-join values others p q base differences =
    sym (raised-reference_of (least_of values) values p refl) ∙ ap (raised (least_of values)) differences ∙ raised-reference_of (least_of values) others q base

pub reference_laws : IsTransform least_of reference_of
reference_laws = record { full = reference_of-full; join = reference_of-join }

-- base and differences are those of a block
pub record IsRaised (base : ℕ) (ds values : List ℕ) : Type 0 where
  pub full : IsFull values
  pub base_is : base ≡ least_of values
  pub differences_are : ds ≡ reference_of values

pub raised_is : (base : ℕ) (ds : List ℕ) (place : ℕ) → IsFull ds → IsAt ds 0 place → ((i : ℕ) → i < length ds → base + get_or ds i 0 < 2 ^ 64) → IsRaised base ds (raised base ds)
raised_is base ds place is at small =
    let values = raised base ds in
    let long : length values ≡ length ds = length-map ds (λ d. wrapped_sum d base) in
    let each : (i : ℕ) → i < length ds → get_or values i 0 ≡ base + get_or ds i 0 = λ i within.
    let below = small i within in
    let sum : wrapped_sum (get_or ds i 0) base ≡ base + get_or ds i 0 = omega arith in
    get_or-map (λ d. wrapped_sum d base) ds i 0 0 within ∙ sum in
    let base_is : base ≡ least_of values = least_of-is values base place
    (record { within = omega (arith, at.within); is = let e = each place at.within in omega (arith, at.is) })
    (λ i within. let e = each i (omega arith) in omega arith) in
    record {
      full = record { whole = long ∙ is.whole; words = words_map (λ d. wrapped_sum d base) ds (λ i within. omega arith) };
      base_is = base_is;
      differences_are =
          let many : length (reference_of values) ≡ length values = length-map values (λ value. value - least_of values) in
          ext_get_or 0 ds (reference_of values) (omega arith) (λ i within.
          let e = each i within in
          let back : get_or ds i 0 ≡ get_or values i 0 - least_of values = omega arith in
          back ∙ sym (reference_of-at values i (omega arith)));
    }

-- differences to the least value have a 0, and their sums with it do not wrap
pub reference_of-zero : (values : List ℕ) → IsFull values → (place : ℕ) × IsAt (reference_of values) 0 place
reference_of-zero values is =
    let met = least_of-at values (omega (arith, is.whole)) in
    let long : length (reference_of values) ≡ length values = length-map values (λ value. value - least_of values) in
    (met.0, record { within = omega (arith, met.1.within); is = let at = reference_of-at values met.0 met.1.within in let least = met.1.is in omega arith })

pub reference_of-small : (values : List ℕ) (i : ℕ) → IsFull values → i < length (reference_of values) → least_of values + get_or (reference_of values) i 0 < 2 ^ 64
reference_of-small values i is within =
    let long : length (reference_of values) ≡ length values = length-map values (λ value. value - least_of values) in
    let at = reference_of-at values i (omega arith) in
    let low = least_of-le values i (omega arith) in
    let word = words_at values is.words i in
    omega arith

-- The relation of base, block and differences is those functions, so it holds of one block at most.

pub AreReferenceDifferences-of : (base : ℕ) (values ds : List ℕ) → length values ≡ block_values → base ≡ least_of values → ds ≡ reference_of values → AreReferenceDifferences base values ds
AreReferenceDifferences-of base values ds whole base_is are =
    let met = least_of-at values (omega (arith, whole)) in
    record {
      count = ap length are ∙ length-map values (λ value. value - least_of values) ∙ whole;
      met = (met.0, met.1.within, get_or_default_zero values met.0 base met.1.within ∙ met.1.is ∙ sym base_is);
      least = λ i within. let low = least_of-le values i (omega (arith, whole)) in omega arith;
      each = λ i within. ap (λ l. get_or l i 0) are ∙ reference_of-at values i (omega (arith, whole)) ∙ ap (λ m. get_or values i 0 - m) (sym base_is);
    }

pub AreReferenceDifferences-base : (base : ℕ) (values ds : List ℕ) → length values ≡ block_values → AreReferenceDifferences base values ds → base ≡ least_of values
AreReferenceDifferences-base base values ds whole is =
    let within : is.met.0 < length values = is.met.1 in
    least_of-is values base is.met.0 (record { within = within; is = sym (get_or_default_zero values is.met.0 base within) ∙ is.met.2 }) (λ i inside. is.least i (omega (arith, whole)))

pub AreReferenceDifferences-are : (base : ℕ) (values ds : List ℕ) → length values ≡ block_values → AreReferenceDifferences base values ds → ds ≡ reference_of values
AreReferenceDifferences-are base values ds whole is =
    reference_of-is base values ds (AreReferenceDifferences-base base values ds whole is) (is.count ∙ sym whole) (λ i within. is.each i (omega (arith, whole)))

pub AreReferenceDifferences-one : HoldsOfOneBlock AreReferenceDifferences
AreReferenceDifferences-one base values others ds p q is be =
    reference_of-join values others p q (sym (AreReferenceDifferences-base base values ds p.whole is) ∙ AreReferenceDifferences-base base others ds q.whole be)
    (sym (AreReferenceDifferences-are base values ds p.whole is) ∙ AreReferenceDifferences-are base others ds q.whole be)
