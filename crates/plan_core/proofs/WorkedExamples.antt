-- The definitions at worked values.
use Rattle.std.proofs.Common.{◌≡◌, ◌^◌, ℕ, true, false, List, [], ◌∷◌, Some, None, refl}
use Rattle.std.specs.Prelude.{codes}
use Rattle.definitions_queries.specs.Queries.{of_number, of_text, equal, below, above, at_least, between, one_of}
use Rattle.plan_core.specs.Meaning.{meets, code_meets}
use Rattle.plan_core.specs.Ranges.{is_in, start_of, end_of}

-- ---- tests

last_of_between : meets (between (of_number 3) (of_number 7)) (of_number 7) ≡ true
last_of_between = refl

turned_round : meets (between (of_number 7) (of_number 3)) (of_number 5) ≡ false
turned_round = refl

front_of_a_text : meets (below (of_text (codes "ASIA"))) (of_text (codes "AS")) ≡ true
front_of_a_text = refl

one_of_two : meets (one_of (of_number 1 ∷ of_number 3 ∷ [])) (of_number 3) ≡ true
one_of_two = refl

-- ---- codes of the texts AFRICA, ASIA, EUROPE

abbrev regions : List (List ℕ)
regions = codes "AFRICA" ∷ codes "ASIA" ∷ codes "EUROPE" ∷ []

asia : code_meets regions (equal (of_text (codes "ASIA"))) 1 ≡ true
asia = refl

no_code : code_meets regions (at_least (of_text (codes "A"))) 3 ≡ false
no_code = refl

-- a text that is absent has no codes, and parts the others at its place
absent_starts : start_of (Some regions) (equal (of_text (codes "AMERICA"))) ≡ 1
absent_starts = refl

absent_ends : end_of (Some regions) (equal (of_text (codes "AMERICA"))) ≡ 1
absent_ends = refl

above_absent : start_of (Some regions) (above (of_text (codes "AMERICA"))) ≡ 1
above_absent = refl

through_asia : end_of (Some regions) (between (of_text (codes "AMERICA")) (of_text (codes "ASIA"))) ≡ 2
through_asia = refl

-- ---- numbers

above_the_greatest : start_of None (above (of_number 18446744073709551615)) ≡ 2 ^ 64
above_the_greatest = refl

none : is_in (record { low = 1; high = 0 }) 1 ≡ false
none = refl
