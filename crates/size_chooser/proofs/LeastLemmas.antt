-- The least of the eight sizes.
use Rattle.std.proofs.Common.{◌≡◌, ℕ, zero, suc, ◌<◌, ◌≤◌, List, [], ◌∷◌, length, get_or, drop, refl, sym, ap, ◌∙◌, inl, inr, arith}
use Rattle.std.proofs.lemmas.Bool.{cases_lt}
use Rattle.definitions_blocks.specs.Formats.{Format, plain, static, dynamic, runs, delta1_dynamic, delta16_dynamic, reference_dynamic, delta1_runs, tag_of}
use Rattle.definitions_columns.specs.Sizes.{size_of}
use Rattle.definitions_columns.proofs.ColumnFileLaws.{tag_of-one}
use Rattle.definitions_columns.proofs.SizeLaws.{IsColumnFile-size}
use Rattle.size_chooser.specs.FileSizes.{AreFileLengths, IsLeast, HasOneLeast, sizes_of}

-- the size in a format stands at its tag
pub size_at : (format : Format) (values : List ℕ) → get_or (sizes_of values) (tag_of format) 0 ≡ size_of format values
size_at plain values = refl
size_at static values = refl
size_at dynamic values = refl
size_at runs values = refl
size_at delta1_dynamic values = refl
size_at delta16_dynamic values = refl
size_at reference_dynamic values = refl
size_at delta1_runs values = refl

pub tag_of-few : (format : Format) → tag_of format < 8
tag_of-few plain = omega arith
tag_of-few static = omega arith
tag_of-few dynamic = omega arith
tag_of-few runs = omega arith
tag_of-few delta1_dynamic = omega arith
tag_of-few delta16_dynamic = omega arith
tag_of-few reference_dynamic = omega arith
tag_of-few delta1_runs = omega arith

-- the format at the place of the least size
pub IsLeast-from_place : (values sizes : List ℕ) (place : ℕ) (format : Format) → sizes ≡ sizes_of values → tag_of format ≡ place
    → ((k : ℕ) → k < length sizes → get_or sizes place 0 ≤ get_or sizes k 0) → ((k : ℕ) → k < place → get_or sizes place 0 < get_or sizes k 0) → IsLeast values format
IsLeast-from_place values sizes place format are tag least first =
    let at : (other : Format) → get_or sizes (tag_of other) 0 ≡ size_of other values = λ other. ap (λ l. get_or l (tag_of other) 0) are ∙ size_at other values in
    let here : get_or sizes place 0 ≡ size_of format values = ap (λ n. get_or sizes n 0) (sym tag) ∙ at format in
    let eight : length sizes ≡ 8 = ap length are in
    record {
      least = λ other. omega (arith, here, at other, least (tag_of other) (omega (arith, eight, tag_of-few other)));
      lowest = λ other lower. omega (arith, here, at other, first (tag_of other) (omega (arith, tag)));
    }

-- the place of the least number, and of several the first
record IsFirstLeast (numbers : List ℕ) (place : ℕ) : Type 0 where
  within : place < length numbers
  least : (k : ℕ) → k < length numbers → get_or numbers place 0 ≤ get_or numbers k 0
  first : (k : ℕ) → k < place → get_or numbers place 0 < get_or numbers k 0

alone : (number k : ℕ) → k < 1 → number ≤ get_or (number ∷ []) k 0
alone number zero within = omega arith
alone number (suc k) within = absurd (omega arith)

-- a number that is no greater than the first and each behind it
least_behind : (number best : ℕ) (numbers : List ℕ) (k : ℕ) → k < suc (length numbers) → best ≤ number → ((n : ℕ) → n < length numbers → best ≤ get_or numbers n 0) → best ≤ get_or (number ∷ numbers) k 0
least_behind number best numbers zero within low each = low
least_behind number best numbers (suc k) within low each = each k (omega arith)

-- a number that is less than the first and those behind it up to a place
first_behind : (number best place : ℕ) (numbers : List ℕ) (k : ℕ) → k < suc place → best < number → ((n : ℕ) → n < place → best < get_or numbers n 0) → best < get_or (number ∷ numbers) k 0
first_behind number best place numbers zero below less each = less
first_behind number best place numbers (suc k) below less each = each k (omega arith)

first_least : (number : ℕ) (numbers : List ℕ) → (place : ℕ) × IsFirstLeast (number ∷ numbers) place
first_least number [] = (0, record { within = omega arith; least = λ k within. alone number k (omega arith); first = λ k below. absurd (omega arith) })
first_least number (next ∷ numbers) =
    let rest = first_least next numbers in
    let place = rest.0 in
    let is : IsFirstLeast (next ∷ numbers) place = rest.1 in
    let best = get_or (next ∷ numbers) place 0 in
    elim (cases_lt best number) [
      | inl less ↦ (
        suc place,
        record {
          within = omega (arith, is.within);
          least = λ k within. least_behind number best (next ∷ numbers) k (omega arith) (omega arith) is.least;
          first = λ k below. first_behind number best place (next ∷ numbers) k below less is.first;
        },
      )
      | inr more ↦ (
        0,
        record {
          within = omega arith;
          least = λ k within. least_behind number number (next ∷ numbers) k (omega arith) (omega arith) (λ n inside. omega (arith, is.least n inside));
          first = λ k below. absurd (omega arith);
        },
      )
    ]

pub format_of_tag : (tag : ℕ) → tag < 8 → (format : Format) × (tag_of format ≡ tag)
format_of_tag zero few = (plain, refl)
format_of_tag (suc zero) few = (static, refl)
format_of_tag (suc (suc zero)) few = (dynamic, refl)
format_of_tag (suc (suc (suc zero))) few = (runs, refl)
format_of_tag (suc (suc (suc (suc zero)))) few = (delta1_dynamic, refl)
format_of_tag (suc (suc (suc (suc (suc zero))))) few = (delta16_dynamic, refl)
format_of_tag (suc (suc (suc (suc (suc (suc zero)))))) few = (reference_dynamic, refl)
format_of_tag (suc (suc (suc (suc (suc (suc (suc zero))))))) few = (delta1_runs, refl)
format_of_tag (suc (suc (suc (suc (suc (suc (suc (suc tag)))))))) few = absurd (omega arith)

-- two formats are not both least
IsLeast-one : (values : List ℕ) (format other : Format) → IsLeast values format → IsLeast values other → format ≡ other
IsLeast-one values format other is be =
    elim (cases_lt (tag_of format) (tag_of other)) [
      | inl lower ↦ absurd (omega (arith, be.lowest format lower, is.least other))
      | inr more ↦ elim (cases_lt (tag_of other) (tag_of format)) [
        | inl lower ↦ absurd (omega (arith, is.lowest other lower, be.least format))
        | inr less ↦ tag_of-one format other (omega arith)
      ]
    ]

-- just one format is least
pub one_least : (values : List ℕ) → HasOneLeast values
one_least values =
    let place = first_least (size_of plain values) (drop 1 (sizes_of values)) in
    let chosen = format_of_tag place.0 place.1.within in
    let is : IsLeast values chosen.0 = IsLeast-from_place values (sizes_of values) place.0 chosen.0 refl chosen.1 place.1.least place.1.first in
    (chosen.0, is, λ other least. IsLeast-one values other chosen.0 least is)

-- the sizes are the lengths of the files
pub sizes_of-lengths : (values sizes : List ℕ) → sizes ≡ sizes_of values → AreFileLengths sizes values
sizes_of-lengths values sizes are format bytes is = ap (λ l. get_or l (tag_of format) 0) are ∙ size_at format values ∙ sym (IsColumnFile-size format values bytes is)
