-- A block as a base and differences.
use Rattle.std.specs.Prelude.{◌≡◌, ℕ, ◌+◌, ◌-◌, ◌%◌, ◌^◌, ◌<◌, ◌≤◌, min, List, [], ◌∷◌, ◌++◌, length, map, fold, replicate, slice_index, Contains}
use Rattle.std.specs.Simd.Lanes.{zip2}
use Rattle.definitions_blocks.specs.Blocks.{block_values, IsFull}

-- a - b, mod 2^64
abbrev pub difference : ℕ → ℕ → ℕ
difference a b = (a + 2 ^ 64 - b) % 2 ^ 64

-- a + b, mod 2^64
abbrev pub wrapped_sum : ℕ → ℕ → ℕ
wrapped_sum a b = (a + b) % 2 ^ 64

-- the first value, which is the base of the two deltas
abbrev pub first_of : List ℕ → ℕ
first_of values = slice_index values 0

-- each value's difference to the one so many places before it, and of the first ones to the first value
abbrev pub lagged_differences : ℕ → List ℕ → List ℕ
lagged_differences lag values = zip2 difference values (replicate lag (first_of values) ++ values)

-- the differences to the value before, with 0 for the first
abbrev pub delta1_of : List ℕ → List ℕ
delta1_of values = lagged_differences 1 values

-- the differences to the value 16 places before, and of the first 16 to the first
abbrev pub delta16_of : List ℕ → List ℕ
delta16_of values = lagged_differences 16 values

-- each value is its difference and the value so many places before it, and for the first ones the base stands there
abbrev pub AreLaggedSums : ℕ → ℕ → List ℕ → List ℕ → Type 0
AreLaggedSums lag base differences values = values ≡ zip2 wrapped_sum differences (replicate lag base ++ values)

-- the least value, which is the base of a frame of reference
abbrev pub least_of : List ℕ → ℕ
least_of [] = 0
least_of (value ∷ values) = fold min value values

-- the differences to the least value
abbrev pub reference_of : List ℕ → List ℕ
reference_of values = map (λ value. value - least_of values) values

-- the base added to each difference, mod 2^64
abbrev pub raised : ℕ → List ℕ → List ℕ
raised base differences = map (λ difference. wrapped_sum difference base) differences

-- `delta1`: the base is the first value, the first difference is 0, and each other one is to the value before
pub record AreDelta1Differences (base : ℕ) (values differences : List ℕ) : Type 0 where
  pub count : length differences ≡ block_values
  pub base_is : base ≡ slice_index values 0
  pub first : slice_index differences 0 ≡ 0
  pub later : (i : ℕ) → 1 ≤ i → i < block_values → slice_index differences i ≡ difference (slice_index values i) (slice_index values (i - 1))

-- `delta16`: the base is the first value, the first 16 differences are to it, and each other one is to the value 16 places before
pub record AreDelta16Differences (base : ℕ) (values differences : List ℕ) : Type 0 where
  pub count : length differences ≡ block_values
  pub base_is : base ≡ slice_index values 0
  pub first : (i : ℕ) → i < 16 → slice_index differences i ≡ difference (slice_index values i) base
  pub later : (i : ℕ) → 16 ≤ i → i < block_values → slice_index differences i ≡ difference (slice_index values i) (slice_index values (i - 16))

-- `reference`: the base is one of the values and none is below it, and each difference is to the base
pub record AreReferenceDifferences (base : ℕ) (values differences : List ℕ) : Type 0 where
  pub count : length differences ≡ block_values
  pub met : Contains values base
  pub least : (i : ℕ) → i < block_values → base ≤ slice_index values i
  pub each : (i : ℕ) → i < block_values → slice_index differences i ≡ slice_index values i - base

-- base and differences are in the relation with one full block at most
abbrev pub HoldsOfOneBlock : (ℕ → List ℕ → List ℕ → Type 0) → Type 0
HoldsOfOneBlock relates =
    (base : ℕ) (values others differences : List ℕ) → IsFull values → IsFull others → relates base values differences → relates base others differences → values ≡ others
