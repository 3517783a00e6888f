-- What the operators compute, on whole lists.
use Rattle.std.specs.Prelude.{ℕ, Bool, ◌&&◌, ◌==◌, nat_le, nat_lt, List, [], ◌∷◌, map, filter, flat_map, length, slice_index, if◌then◌else◌}
use Rattle.std.specs.List.{list_any, range_with_len}

-- the places of a list of n values, rising
abbrev pub places : ℕ → List ℕ
places n = range_with_len 0 n

-- those of n places at which the test holds, rising
abbrev pub places_where : (ℕ → Bool) → ℕ → List ℕ
places_where test n = filter test (places n)

-- the places of the values that pass the test, rising
abbrev pub passing_places : (ℕ → Bool) → List ℕ → List ℕ
passing_places test values = places_where (λ place. test (slice_index values place)) (length values)

-- whether a value is from low to high
abbrev pub is_within : ℕ → ℕ → ℕ → Bool
is_within low high value = nat_le low value && nat_le value high

-- a selection: the places of the values from low to high
abbrev pub positions_in : ℕ → ℕ → List ℕ → List ℕ
positions_in low high values = passing_places (is_within low high) values

-- a projection: the values at the positions
abbrev pub values_at : List ℕ → List ℕ → List ℕ
values_at values positions = map (λ position. slice_index values position) positions

-- whether a list has a number
abbrev pub has : List ℕ → ℕ → Bool
has numbers number = list_any (λ other. other == number) numbers

-- of two rising lists, the numbers that stand in both
abbrev pub intersect : List ℕ → List ℕ → List ℕ
intersect left right = filter (has right) left

-- a rising list with one number more, unless it is there
abbrev pub with_number : ℕ → List ℕ → List ℕ
with_number number [] = number ∷ []
with_number number (first ∷ rest) =
    if nat_lt number first then number ∷ first ∷ rest
    else (if number == first then first ∷ rest else first ∷ with_number number rest)

-- of two rising lists, the numbers that stand in one at least
abbrev pub union : List ℕ → List ℕ → List ℕ
union [] right = right
union (number ∷ left) right = with_number number (union left right)

-- a semi-join: the places of the values that are keys
abbrev pub semi_join : List ℕ → List ℕ → List ℕ
semi_join values keys = passing_places (has keys) values

-- the places of the keys that equal a value
abbrev pub places_of : List ℕ → ℕ → List ℕ
places_of keys value = passing_places (λ key. key == value) keys

-- a join: for each place of the values, rising, and each place of the keys with the same value, rising, one pair
abbrev pub join : List ℕ → List ℕ → List (ℕ × ℕ)
join values keys = flat_map (λ place. map (λ key. (place, key)) (places_of keys (slice_index values place))) (places (length values))
