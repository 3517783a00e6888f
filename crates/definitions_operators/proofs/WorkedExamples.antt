-- The definitions at worked values: the example's columns are 10, 20, 30, 40, 50 and 2, 3, 5, 7, 8.
use Rattle.std.proofs.Common.{◌≡◌, ℕ, List, [], ◌∷◌, replicate, refl}
use Rattle.std.specs.Prelude.{sum, Some, None}
use Rattle.definitions_operators.specs.Operators.{places, positions_in, values_at}
use Rattle.definitions_operators.specs.Sums.{kept_values, sum_over}
use Rattle.definitions_operators.specs.Costs.{block_count}

abbrev a : List ℕ
a = 10 ∷ 20 ∷ 30 ∷ 40 ∷ 50 ∷ []

abbrev b : List ℕ
b = 2 ∷ 3 ∷ 5 ∷ 7 ∷ 8 ∷ []

selected : positions_in 3 7 b ≡ 1 ∷ 2 ∷ 3 ∷ []
selected = refl

projected : values_at a (2 ∷ 0 ∷ 2 ∷ []) ≡ 30 ∷ 10 ∷ 30 ∷ []
projected = refl

kept : sum (kept_values a b 3 7) ≡ 90
kept = refl

none_kept : kept_values a b 7 3 ≡ []
none_kept = refl

all_kept : sum (kept_values a b 0 100) ≡ 150
all_kept = refl

-- # At the edges

-- 2^64 - 1
abbrev most : ℕ
most = 18446744073709551615

no_places : places 0 ≡ []
no_places = refl

selected_of_none : positions_in 0 most [] ≡ []
selected_of_none = refl

selected_low_above_high : positions_in 7 3 b ≡ []
selected_low_above_high = refl

selected_one_value : positions_in 5 5 b ≡ 2 ∷ []
selected_one_value = refl

selected_most : positions_in most most (most ∷ 0 ∷ most ∷ []) ≡ 0 ∷ 2 ∷ []
selected_most = refl

projected_at_none : values_at a [] ≡ []
projected_at_none = refl

sum_of_none : sum_over (kept_values a b 7 3) ≡ None
sum_of_none = refl

sum_of_zero : sum_over (0 ∷ []) ≡ Some 0
sum_of_zero = refl

sum_past_64_bits : sum_over (most ∷ 1 ∷ []) ≡ Some 18446744073709551616
sum_past_64_bits = refl

no_block : block_count [] ≡ 0
no_block = refl

one_block : block_count (replicate 1024 7) ≡ 1
one_block = refl

a_block_and_one_value : block_count (replicate 1025 7) ≡ 2
a_block_and_one_value = refl
