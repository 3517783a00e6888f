-- Keys that a table of bytes marks.
use Rattle.std.proofs.Common.{◌≡◌, ◌≢◌, ◌∙◌, ap, refl, sym, ℕ, zero, suc, ◌+◌, ◌-◌, ◌%◌, ◌^◌, ◌<◌, ◌≤◌, inl, inr, Bool, true, false, cond, List, [], ◌∷◌, length, set, replicate, ◌++◌, All, arith}
use Rattle.std.specs.Prelude.{slice_index, ◌==◌, ◌||◌, min}
use Rattle.std.proofs.lemmas.Bool.{eq-eqb, ne_eqb, cases_lt, cases_eq}
use Rattle.std.proofs.lemmas.List.{get_or_past, get_or-set_same, get_or-set_other, get_or-replicate, length-replicate}
use Rattle.definitions_operators.specs.Operators.{has}
use Rattle.std.proofs.lemmas.List.Elements.{All-cons, All-weaker}
use Rattle.join_ops.specs.KeySets.{marked, HaveSameKeys, AreDistinct}
use Rattle.join_ops.proofs.KeyLaws.{has-append, or_false, distinct-none, distinct-cons}

-- a value below all places stands at none
below : (b : Bool) (low value : ℕ) (keys : List ℕ) → low ≢ value → has keys value ≡ false → has (cond b (low ∷ keys) keys) value ≡ false
below true low value keys apart rest = ap (λ t. t || has keys value) (ne_eqb low value apart) ∙ rest
below false low value keys apart rest = rest

pub marked-below : (low : ℕ) (marks : List ℕ) (value : ℕ) → value < low → has (marked low marks) value ≡ false
marked-below low [] value before = refl
marked-below low (mark ∷ marks) value before =
    below (mark == 1) low value (marked (low + 1) marks) (omega arith) (marked-below (low + 1) marks value (omega arith))

here : (b : Bool) (low : ℕ) (keys : List ℕ) → has keys low ≡ false → has (cond b (low ∷ keys) keys) low ≡ b
here true low keys rest = ap (λ t. t || has keys low) (eq-eqb low low refl)
here false low keys rest = rest

there : (b : Bool) (low value : ℕ) (keys : List ℕ) → low ≢ value → has (cond b (low ∷ keys) keys) value ≡ has keys value
there true low value keys apart = ap (λ t. t || has keys value) (ne_eqb low value apart)
there false low value keys apart = refl

alone : (key value : ℕ) → key ≢ value → has (key ∷ []) value ≡ false
alone key value apart = ap (λ t. t || false) (ne_eqb key value apart)

with_key : (t : Bool) (key value : ℕ) → key ≡ value → (t || has (key ∷ []) value) ≡ true
with_key true key value same = refl
with_key false key value same = ap (λ t. t || false) (eq-eqb key value same)

-- a value is marked exactly where the byte at its distance is 1
pub marked-at : (low : ℕ) (marks : List ℕ) (value distance : ℕ) → low + distance ≡ value → has (marked low marks) value ≡ (slice_index marks distance == 1)
marked-at low [] value distance is = refl
marked-at low (mark ∷ marks) value zero is =
    let same : value ≡ low = omega arith in
    ap (λ v. has (marked low (mark ∷ marks)) v) same ∙ here (mark == 1) low (marked (low + 1) marks) (marked-below (low + 1) marks low (omega arith))
marked-at low (mark ∷ marks) value (suc distance) is =
    there (mark == 1) low value (marked (low + 1) marks) (omega arith) ∙ marked-at (low + 1) marks value distance (omega arith)

-- one look-up, at the distance or at the last byte, which marks nothing
pub marked-look : (low last value : ℕ) (marks : List ℕ) → length marks ≡ last + 1 → slice_index marks last ≡ 0 → low + last < 2 ^ 64 → value < 2 ^ 64
    → (slice_index marks (min ((value + (2 ^ 64 - low)) % 2 ^ 64) last) == 1) ≡ has (marked low marks) value
marked-look low last value marks long none fits word =
    elim (cases_lt value low) [
      | inl before ↦
          let at : min ((value + (2 ^ 64 - low)) % 2 ^ 64) last ≡ last = omega arith in
          ap (λ n. slice_index marks n == 1) at ∙ ap (λ n. n == 1) none ∙ sym (marked-below low marks value before)
      | inr from ↦
          let gap : (value + (2 ^ 64 - low)) % 2 ^ 64 ≡ value - low = omega arith in
          elim (cases_lt last (value - low)) [
            | inl past ↦
                let at : min ((value + (2 ^ 64 - low)) % 2 ^ 64) last ≡ last = omega arith in
                ap (λ n. slice_index marks n == 1) at ∙ ap (λ n. n == 1) (none ∙ sym (get_or_past marks (value - low) 0 (omega arith))) ∙ sym (marked-at low marks value (value - low) (omega arith))
            | inr within ↦
                let at : min ((value + (2 ^ 64 - low)) % 2 ^ 64) last ≡ value - low = omega arith in
                ap (λ n. slice_index marks n == 1) at ∙ sym (marked-at low marks value (value - low) (omega arith))
          ]
    ]

-- one byte more that marks
pub marked-set : (low distance : ℕ) (marks : List ℕ) → distance < length marks → HaveSameKeys (marked low (set marks distance 1)) (marked low marks ++ (low + distance) ∷ [])
marked-set low distance marks within = λ value.
    let key = low + distance in
    let split = has-append (marked low marks) (key ∷ []) value in
    elim (cases_lt value low) [
      | inl before ↦ marked-below low (set marks distance 1) value before
          ∙ sym (split ∙ ap (λ t. t || has (key ∷ []) value) (marked-below low marks value before) ∙ alone key value (omega arith))
      | inr from ↦
          let gap = value - low in
          let at : low + gap ≡ value = omega arith in
          elim (cases_eq gap distance) [
            | inl same ↦ marked-at low (set marks distance 1) value distance (omega arith) ∙ ap (λ n. n == 1) (get_or-set_same marks distance 1 0 within)
                ∙ sym (split ∙ ap (λ t. t || has (key ∷ []) value) (marked-at low marks value gap at) ∙ with_key (slice_index marks gap == 1) key value (omega arith))
            | inr apart ↦ marked-at low (set marks distance 1) value gap at ∙ ap (λ n. n == 1) (get_or-set_other marks distance gap 1 0 apart)
                ∙ sym (split ∙ ap (λ t. t || has (key ∷ []) value) (marked-at low marks value gap at) ∙ ap (λ t. (slice_index marks gap == 1) || t) (alone key value (omega arith)) ∙ or_false (slice_index marks gap == 1))
          ]
    ]

pub marked-zeros : (low n : ℕ) → marked low (replicate n 0) ≡ []
marked-zeros low zero = refl
marked-zeros low (suc n) = marked-zeros (low + 1) n

pub last-zero : (n : ℕ) → slice_index (replicate n 0) (length {A = ℕ} (replicate n 0) - 1) ≡ 0
last-zero n = elim (cases_lt (length {A = ℕ} (replicate n 0) - 1) n) [
  | inl within ↦ get_or-replicate n (length {A = ℕ} (replicate n 0) - 1) 0 0 within
  | inr past ↦ get_or_past (replicate n 0) (length {A = ℕ} (replicate n 0) - 1) 0 (omega (arith, length-replicate {A = ℕ} n 0))
]

-- # Each key once

pub marked-from : (low : ℕ) (marks : List ℕ) → All (λ key. low ≤ key) (marked low marks)
marked-from low [] = λ k d within. absurd (omega arith)
marked-from low (mark ∷ marks) =
    let rest : All (λ key. low ≤ key) (marked (low + 1) marks) = All-weaker (λ key. low + 1 ≤ key) (λ key. low ≤ key) (λ key more. omega arith) (marked (low + 1) marks) (marked-from (low + 1) marks) in
    (elim (mark == 1) as (λ b. All (λ key. low ≤ key) (cond b (low ∷ marked (low + 1) marks) (marked (low + 1) marks))) [
      | true ↦ All-cons (λ key. low ≤ key) low (marked (low + 1) marks) (omega arith) rest
      | false ↦ rest
    ])

pub marked-distinct : (low : ℕ) (marks : List ℕ) → AreDistinct (marked low marks)
marked-distinct low [] = distinct-none
marked-distinct low (mark ∷ marks) =
    let rest = marked-distinct (low + 1) marks in
    let above : All (λ key. low < key) (marked (low + 1) marks) = All-weaker (λ key. low + 1 ≤ key) (λ key. low < key) (λ key more. omega arith) (marked (low + 1) marks) (marked-from (low + 1) marks) in
    (elim (mark == 1) as (λ b. AreDistinct (cond b (low ∷ marked (low + 1) marks) (marked (low + 1) marks))) [
      | true ↦ distinct-cons low (marked (low + 1) marks) above rest
      | false ↦ rest
    ])
