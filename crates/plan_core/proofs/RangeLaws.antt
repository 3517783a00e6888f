-- The range of a test has just the values that meet it.
use Rattle.std.proofs.Common.{◌≡◌, ◌<◌, ◌≤◌, ℕ, ◌+◌, ◌^◌, Bool, true, false, not, ◌&&◌, List, [], ◌∷◌, length, Some, None, inl, inr, ◌⊎◌, refl, sym, ap, ◌∙◌, cond, true≢false, arith, nat_lt, get_or}
use Rattle.std.specs.Prelude.{Option, IsTrue, slice_get, filter, ◌==◌}
use Rattle.std.specs.List.{AllByRecursion}
use Rattle.std.specs.Str.{bytes_eq}
use Rattle.std.specs.Cmp.{both_ways}
use Rattle.std.specs.Cmp.Lexicographic.{slice_cmp}
use Rattle.std.specs.Ordering.{nat_cmp, is_lt, is_eq, ordering_reverse}
use Rattle.std.specs.declared.cmp.Ordering.{Ordering}
use Rattle.std.specs.declared.cmp.Ordering.TheVariants.{Less, Equal, Greater}
use Rattle.std.proofs.lemmas.Cmp.{nat_list_cmp_total}
use Rattle.std.proofs.lemmas.Map.Text.{is_eq-slice_cmp}
use Rattle.std.proofs.lemmas.Bool.{ltb-true, ltb-false, lt-ltb, le-ltb, eqb-true, eq-eqb, and_right, not_from_false, cases_lt, false_from_ne_true}
use Rattle.std.proofs.lemmas.Option.{slice_get_cases}
use Rattle.definitions_queries.specs.Queries.{Literal, of_number, of_text, Test, equal, below, at_most, above, at_least, between, one_of}
use Rattle.catalog_core.specs.Texts.{Text, is_below}
use Rattle.catalog_core.specs.Dictionaries.{AreTexts, code_of, rank_below, rank_through, CodeIsPlace, RanksPartCodes}
use Rattle.catalog_core.specs.declared.schemas.Kind.TheVariants as kind
use Rattle.query_bind.specs.Binding.{literals_of, fits}
use Rattle.plan_core.specs.Meaning.{comes_before, is_equal, meets, code_meets}
use Rattle.plan_core.specs.Ranges.{kind_with, is_range, count_below, count_through, count_all, start_of, end_of}

-- whether a number is from the start of a test's range on and before its end
abbrev pub within : Option (List Text) → Test → ℕ → Bool
within texts test number = not (nat_lt number (start_of texts test)) && nat_lt number (end_of texts test)

never_below_zero : (number : ℕ) (b : Bool) → (not (nat_lt number 0) && b) ≡ b
never_below_zero number b = ap (λ below. not below && b) (false_from_ne_true (nat_lt number 0) (λ is. absurd (omega (arith, ltb-true number 0 is))))

not_not : (b : Bool) → not (not b) ≡ b
not_not true = refl
not_not false = refl

and_true : (b : Bool) → (b && true) ≡ b
and_true true = refl
and_true false = refl

-- what is known of a number or code, and of the value that it stands for
record Known (texts : Option (List Text)) (number : ℕ) (value : Literal) : Type 0 where
  pub within : nat_lt number (count_all texts) ≡ true
  pub below : (literal : Literal) → IsTrue (fits (kind_with texts) literal) → nat_lt number (count_below texts literal) ≡ comes_before value literal
  pub through : (literal : Literal) → IsTrue (fits (kind_with texts) literal) → nat_lt number (count_through texts literal) ≡ not (comes_before literal value)
  pub same : (literal : Literal) → IsTrue (fits (kind_with texts) literal) → (not (comes_before value literal) && not (comes_before literal value)) ≡ is_equal value literal

met : (texts : Option (List Text)) (number : ℕ) (value : Literal) → Known texts number value → (test : Test) → IsTrue (is_range test)
    → AllByRecursion (λ literal. IsTrue (fits (kind_with texts) literal)) (literals_of test) → within texts test number ≡ meets test value
met texts number value known (equal literal) range fit = rw (known.below literal fit.0, known.through literal fit.0) (known.same literal fit.0)
met texts number value known (below literal) range fit = never_below_zero number (nat_lt number (count_below texts literal)) ∙ known.below literal fit.0
met texts number value known (at_most literal) range fit = never_below_zero number (nat_lt number (count_through texts literal)) ∙ known.through literal fit.0
met texts number value known (above literal) range fit = rw (known.through literal fit.0, known.within) (and_true (not (not (comes_before literal value))) ∙ not_not (comes_before literal value))
met texts number value known (at_least literal) range fit = rw (known.below literal fit.0, known.within) (and_true (not (comes_before value literal)))
met texts number value known (between low high) range fit = rw (known.below low fit.0, known.through high fit.1.0) refl
met texts number value known (one_of literals) range fit = absurd (true≢false (sym range))

-- ---- numbers

before_next : (number value : ℕ) → nat_lt number (value + 1) ≡ not (nat_lt value number)
before_next number value = by (cases_lt value number) where
  by : (value < number) ⊎ (number ≤ value) → nat_lt number (value + 1) ≡ not (nat_lt value number)
  by (inl greater) = rw (lt-ltb value number greater, le-ltb number (value + 1) (omega (arith, greater))) refl
  by (inr less) = rw (le-ltb value number less, lt-ltb number (value + 1) (omega (arith, less))) refl

numbers_same : (number value : ℕ) → (not (nat_lt number value) && not (nat_lt value number)) ≡ (number == value)
numbers_same number value = both_ways (not (nat_lt number value) && not (nat_lt value number)) (number == value)
    (λ is. eq-eqb number value (equal_if (nat_lt number value) refl (nat_lt value number) refl is))
    (λ is. let same = eqb-true number value is in rw (le-ltb number value (omega (arith, same)), le-ltb value number (omega (arith, same))) refl) where
      equal_if : (a : Bool) → nat_lt number value ≡ a → (b : Bool) → nat_lt value number ≡ b → (not a && not b) ≡ true → number ≡ value
      equal_if true e b f is = absurd (true≢false (sym is))
      equal_if false e true f is = absurd (true≢false (sym is))
      equal_if false e false f is = omega (arith, ltb-false number value e, ltb-false value number f)

number_known : (number : ℕ) → number < 2 ^ 64 → Known None number (of_number number)
number_known number small = record {
  within = lt-ltb number (2 ^ 64) small;
  below = below_is;
  through = through_is;
  same = same_is;
} where
  below_is : (literal : Literal) → IsTrue (fits kind.Number literal) → nat_lt number (count_below None literal) ≡ comes_before (of_number number) literal
  below_is (of_number value) fit = refl
  below_is (of_text bytes) fit = absurd (true≢false (sym fit))

  through_is : (literal : Literal) → IsTrue (fits kind.Number literal) → nat_lt number (count_through None literal) ≡ not (comes_before literal (of_number number))
  through_is (of_number value) fit = before_next number value
  through_is (of_text bytes) fit = absurd (true≢false (sym fit))

  same_is : (literal : Literal) → IsTrue (fits kind.Number literal) → (not (comes_before (of_number number) literal) && not (comes_before literal (of_number number))) ≡ is_equal (of_number number) literal
  same_is (of_number value) fit = numbers_same number value
  same_is (of_text bytes) fit = absurd (true≢false (sym fit))

pub number_met : (test : Test) (number : ℕ) → number < 2 ^ 64 → IsTrue (is_range test) → AllByRecursion (λ literal. IsTrue (fits kind.Number literal)) (literals_of test)
    → within None test number ≡ meets test (of_number number)
number_met test number small range fit = met None number (of_number number) (number_known number small) test range fit

-- ---- codes

from_not : (b : Bool) → not b ≡ true → b ≡ false
from_not true e = absurd (true≢false (sym e))
from_not false e = refl

one_way : (o : Ordering) → (not (is_lt o) && not (is_lt (ordering_reverse o))) ≡ is_eq o
one_way Less = refl
one_way Equal = refl
one_way Greater = refl

texts_same : (text other : Text) → (not (is_below text other) && not (is_below other text)) ≡ bytes_eq text other
texts_same text other =
    ap (λ back. not (is_below text other) && not (is_lt back)) (nat_list_cmp_total.antisymm other text) ∙ one_way (slice_cmp nat_cmp text other) ∙ is_eq-slice_cmp text other

module _ (texts : List Text) (lawful : AreTexts texts) (places : CodeIsPlace) (ranks : RanksPartCodes) (code : ℕ) (text : Text) (is : slice_get texts code ≡ Some text) where
  coded : code_of text texts ≡ Some code
  coded = (places texts text code lawful).0 is

  code_known : Known (Some texts) code (of_text text)
  code_known = record { within = inside (slice_get_cases texts code).1; below = below_is; through = through_is; same = same_is } where
    inside : ((x : Text) × (code < length texts) × (slice_get texts code ≡ Some x) × (get_or texts code x ≡ x)) ⊎ ((length texts ≤ code) × (slice_get texts code ≡ None)) → nat_lt code (length texts) ≡ true
    inside (inl there) = lt-ltb code (length texts) there.1
    inside (inr past) = absurd (cc (is, past.1))

    below_is : (literal : Literal) → IsTrue (fits kind.Text literal) → nat_lt code (count_below (Some texts) literal) ≡ comes_before (of_text text) literal
    below_is (of_number value) fit = absurd (true≢false (sym fit))
    below_is (of_text bytes) fit =
        let part = (ranks texts bytes text code lawful coded).0 in
        both_ways (nat_lt code (rank_below bytes texts)) (is_below text bytes) (λ low. part.0 (ltb-true code (rank_below bytes texts) low)) (λ before. lt-ltb code (rank_below bytes texts) (part.1 before))

    through_is : (literal : Literal) → IsTrue (fits kind.Text literal) → nat_lt code (count_through (Some texts) literal) ≡ not (comes_before literal (of_text text))
    through_is (of_number value) fit = absurd (true≢false (sym fit))
    through_is (of_text bytes) fit =
        let part = (ranks texts bytes text code lawful coded).1 in
        both_ways (nat_lt code (rank_through bytes texts)) (not (is_below bytes text))
        (λ low. not_from_false (is_below bytes text) (part.0 (ltb-true code (rank_through bytes texts) low)))
        (λ not_after. lt-ltb code (rank_through bytes texts) (part.1 (from_not (is_below bytes text) not_after)))

    same_is : (literal : Literal) → IsTrue (fits kind.Text literal) → (not (comes_before (of_text text) literal) && not (comes_before literal (of_text text))) ≡ is_equal (of_text text) literal
    same_is (of_number value) fit = absurd (true≢false (sym fit))
    same_is (of_text bytes) fit = texts_same text bytes

counted : (p : Text → Bool) (texts : List Text) → length (filter p texts) ≤ length texts
counted p [] = omega arith
counted p (text ∷ texts) = omega (arith, one_more (p text) text (filter p texts), counted p texts) where
  one_more : (passes : Bool) (first : Text) (rest : List Text) → length (cond passes (first ∷ rest) rest) ≤ length rest + 1
  one_more true first rest = omega arith
  one_more false first rest = omega arith

-- no range goes beyond the codes
end_inside : (texts : List Text) (test : Test) → IsTrue (is_range test) → AllByRecursion (λ literal. IsTrue (fits kind.Text literal)) (literals_of test) → end_of (Some texts) test ≤ length texts
end_inside texts test range fit = by test range fit where
  below_inside : (literal : Literal) → count_below (Some texts) literal ≤ length texts
  below_inside (of_number value) = omega arith
  below_inside (of_text bytes) = counted (λ other. is_below other bytes) texts

  through_inside : (literal : Literal) → count_through (Some texts) literal ≤ length texts
  through_inside (of_number value) = omega arith
  through_inside (of_text bytes) = counted (λ other. not (is_below bytes other)) texts

  by : (one : Test) → IsTrue (is_range one) → AllByRecursion (λ literal. IsTrue (fits kind.Text literal)) (literals_of one) → end_of (Some texts) one ≤ length texts
  by (equal literal) range fit = through_inside literal
  by (below literal) range fit = below_inside literal
  by (at_most literal) range fit = through_inside literal
  by (above literal) range fit = omega arith
  by (at_least literal) range fit = omega arith
  by (between low high) range fit = through_inside high
  by (one_of literals) range fit = omega arith

pub code_met : (texts : List Text) → AreTexts texts → CodeIsPlace → RanksPartCodes → (test : Test) (code : ℕ) → IsTrue (is_range test)
    → AllByRecursion (λ literal. IsTrue (fits kind.Text literal)) (literals_of test) → within (Some texts) test code ≡ code_meets texts test code
code_met texts lawful places ranks test code range fit = by (slice_get texts code) refl where
  by : (found : Option Text) → slice_get texts code ≡ found → within (Some texts) test code ≡ code_meets texts test code
  by (Some text) is = rw is (met (Some texts) code (of_text text) (code_known texts lawful places ranks code text is) test range fit)
  by None is = rw is (and_right (not (nat_lt code (start_of (Some texts) test))) (nat_lt code (end_of (Some texts) test)) (outside (slice_get_cases texts code).1)) where
    outside : ((x : Text) × (code < length texts) × (slice_get texts code ≡ Some x) × (get_or texts code x ≡ x)) ⊎ ((length texts ≤ code) × (slice_get texts code ≡ None)) → nat_lt code (end_of (Some texts) test) ≡ false
    outside (inl there) = absurd (cc (is, there.2))
    outside (inr past) = le-ltb code (end_of (Some texts) test) (omega (arith, past.0, end_inside texts test range fit))
