-- A list's width is the least that holds its values: it has one, which `width_of` computes.
use Rattle.std.proofs.Common.{◌≡◌, ℕ, zero, suc, ◌+◌, ◌-◌, ◌^◌, ◌<◌, ◌≤◌, max, Bool, true, false, cond, not, ◌&&◌, List, [], ◌∷◌, ◌++◌, length, refl, sym, ap, ◌∙◌, subst, inl, inr, arith, length-append}
use Rattle.std.specs.Prelude.{slice_index}
use Rattle.std.specs.List.{AllByRecursion, prefix_len, range_with_len}
use Rattle.std.proofs.Math.Nat.{pow-le-pow_right}
use Rattle.std.proofs.lemmas.Bool.{and_parts, cases_Bool, cases_lt, lt-ltb, ltb-true}
use Rattle.std.proofs.lemmas.List.{get_or_append_left, get_or-append_right, get_or-append-add}
use Rattle.definitions_blocks.specs.Words.{IsWord}
use Rattle.definitions_blocks.specs.Packed.{AreBelow, IsWidth}
use Rattle.definitions_blocks.specs.Encodings.{fits_width, width_of}
use Rattle.definitions_blocks.proofs.WordListLaws.{words_at}

-- Values below a power of two.

pub AreBelow-words : (values : List ℕ) → AllByRecursion IsWord values → AreBelow 64 values
AreBelow-words values words = λ i within. words_at values words i

pub AreBelow-wider : (width other : ℕ) (values : List ℕ) → width ≤ other → AreBelow width values → AreBelow other values
AreBelow-wider width other values wide small = λ i within.
    let here : slice_index values i < 2 ^ width = small i within in
    let more : 2 ^ width ≤ 2 ^ other = pow-le-pow_right (omega arith) wide in
    omega arith

pub AreBelow-append : (width : ℕ) (values others : List ℕ) → AreBelow width values → AreBelow width others → AreBelow width (values ++ others)
AreBelow-append width values others p q = λ i within.
    let P : ℕ → Type 0 = λ n. n < 2 ^ width in
    elim (cases_lt i (length values)) [
      | inl early ↦ subst P (sym (get_or_append_left values others 0 i early)) (p i early)
      | inr late ↦ subst P (sym (get_or-append_right values others (length values) i 0 refl late)) (q (i - length values) (omega (arith, length-append values others)))
    ]

pub AreBelow-front : (width : ℕ) (values others : List ℕ) → AreBelow width (values ++ others) → AreBelow width values
AreBelow-front width values others p = λ i within. subst (λ n. n < 2 ^ width) (get_or_append_left values others 0 i within) (p i (omega (arith, length-append values others)))

pub AreBelow-rest : (width : ℕ) (values others : List ℕ) → AreBelow width (values ++ others) → AreBelow width others
AreBelow-rest width values others p = λ i within.
    subst (λ n. n < 2 ^ width) (get_or-append-add values others i 0) (p (length values + i) (omega (arith, length-append values others)))

-- The test of a width.

below_cons : (width value : ℕ) (values : List ℕ) → value < 2 ^ width → AreBelow width values → (i : ℕ) → i < length (value ∷ values) → slice_index (value ∷ values) i < 2 ^ width
below_cons width value values here rest zero within = here
below_cons width value values here rest (suc i) within = rest i (omega arith)

pub AreBelow-from_fits : (width : ℕ) (values : List ℕ) → fits_width values width ≡ true → AreBelow width values
AreBelow-from_fits width [] fits = λ i within. absurd (omega arith)
AreBelow-from_fits width (value ∷ values) fits =
    let parts = and_parts _ _ fits in
    below_cons width value values (ltb-true value (2 ^ width) parts.0) (AreBelow-from_fits width values parts.1)

pub fits_from_AreBelow : (width : ℕ) (values : List ℕ) → AreBelow width values → fits_width values width ≡ true
fits_from_AreBelow width [] small = refl
fits_from_AreBelow width (value ∷ values) small =
    ap (λ b. b && fits_width values width) (lt-ltb value (2 ^ width) (small 0 (omega arith))) ∙ fits_from_AreBelow width values (λ i within. small (suc i) (omega arith))

-- The least width.

-- a list has one width
pub IsWidth-one : (width other : ℕ) (values : List ℕ) → IsWidth width values → IsWidth other values → width ≡ other
IsWidth-one width other values p q = let up : width ≤ other = p.least other q.holds in let down : other ≤ width = q.least width p.holds in omega arith

-- the width of two lists in a row is the greater of their widths
pub IsWidth-append : (width other : ℕ) (values others : List ℕ) → IsWidth width values → IsWidth other others → IsWidth (max width other) (values ++ others)
IsWidth-append width other values others p q = record {
  holds = AreBelow-append (max width other) values others (AreBelow-wider width (max width other) values (omega arith) p.holds) (AreBelow-wider other (max width other) others (omega arith) q.holds);
  least = λ v small.
      let front : width ≤ v = p.least v (AreBelow-front v values others small) in
      let rest : other ≤ v = q.least v (AreBelow-rest v values others small) in
      omega arith;
}

-- the place of the first number of a range that does not pass
first_from : (test : ℕ → Bool) (a n w : ℕ) → a ≤ w → w < a + n → test w ≡ false → ((v : ℕ) → v < w → test v ≡ true) → a + prefix_len test (range_with_len a n) ≡ w
first_from test a zero w above below stops passes = absurd (omega arith)
first_from test a (suc n) w above below stops passes =
    let rest = prefix_len test (range_with_len (a + 1) n) in
    elim (cases_lt a w) [
      | inl less ↦
          let more : a + 1 + rest ≡ w = first_from test (a + 1) n w (omega arith) (omega arith) stops passes in
          ap (λ b. a + cond b (1 + rest) 0) (passes a less) ∙ omega arith
      | inr most ↦
          let here : w ≡ a = omega arith in
          ap (λ b. a + cond b (1 + rest) 0) (subst (λ v. test v ≡ false) here stops) ∙ omega arith
    ]

first_of_range : (test : ℕ → Bool) (n w : ℕ) → w < n → test w ≡ false → ((v : ℕ) → v < w → test v ≡ true) → prefix_len test (range_with_len 0 n) ≡ w
first_of_range test n w below stops passes = omega (arith, first_from test 0 n w (omega arith) (omega arith) stops passes)

-- `width_of` is the width
pub width_of-is : (width : ℕ) (values : List ℕ) → IsWidth width values → width ≤ 64 → width_of values ≡ width
unfolding width_of
width_of-is width values is narrow =
    first_of_range (λ v. not (fits_width values v)) 65 width (omega arith) (ap not (fits_from_AreBelow width values is.holds))
    (λ v less.
    elim (cases_Bool (fits_width values v)) [
      | inl fits ↦ let up : width ≤ v = is.least v (AreBelow-from_fits v values fits) in absurd (omega arith)
      | inr misses ↦ ap not misses
    ])

record HasWidth (most : ℕ) (values : List ℕ) : Type 0 where
  width : ℕ
  within : width ≤ most
  is : IsWidth width values

-- values that some width holds have a width
least_width : (most : ℕ) (values : List ℕ) → AreBelow most values → HasWidth most values
least_width zero values small = record { width = 0; within = omega arith; is = record { holds = small; least = λ other holds. omega arith } }
least_width (suc most) values small =
    elim (cases_Bool (fits_width values most)) [
      | inl fits ↦ let less = least_width most values (AreBelow-from_fits most values fits) in record { width = less.width; within = omega (arith, less.within); is = less.is }
      | inr misses ↦
          record {
            width = suc most;
            within = omega arith;
            is = record {
              holds = small;
              least = λ other holds.
                  elim (cases_lt most other) [
                    | inl more ↦ omega arith
                    | inr less ↦ let held : fits_width values most ≡ true = fits_from_AreBelow most values (AreBelow-wider other most values less holds) in absurd (cc (held, misses))
                  ];
            };
          }
    ]

-- a list of 64-bit numbers has the width that `width_of` says
pub IsWidth-width_of : (values : List ℕ) → AreBelow 64 values → IsWidth (width_of values) values
IsWidth-width_of values small =
    let has = least_width 64 values small in
    subst (λ w. IsWidth w values) (sym (width_of-is has.width values has.is has.within)) has.is

pub width_of-narrow : (values : List ℕ) → AreBelow 64 values → width_of values ≤ 64
width_of-narrow values small = let has = least_width 64 values small in omega (arith, width_of-is has.width values has.is has.within, has.within)
