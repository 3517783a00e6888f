-- The definitions at worked values, which were computed by hand.
use Rattle.std.proofs.Common.{◌≡◌, ◌-◌, ◌^◌, ℕ, List, [], ◌∷◌, ◌++◌, map, length, replicate, true, false, refl, arith}
use Rattle.definitions_blocks.specs.Words.{word_bytes, words_of}
use Rattle.definitions_blocks.specs.Blocks.{block_at}
use Rattle.definitions_blocks.specs.Packed.{strand_bit}
use Rattle.definitions_blocks.specs.Differences.{difference, delta1_of, delta16_of, reference_of, raised, AreLaggedSums}
use Rattle.definitions_blocks.specs.Runs.{AreRunsOf, NeighboursDiffer, run_bytes, run_count, two_bytes}
use Rattle.definitions_blocks.specs.Encodings.{width_of}
use Rattle.definitions_blocks.specs.Formats.{Format, plain, static, dynamic, runs, delta1_dynamic, delta16_dynamic, reference_dynamic, delta1_runs, tag_of, name_of, has_static_width}

-- Numbers.

word_of_a_small_number : words_of (258 ∷ 0 ∷ []) ≡ 2 ∷ 1 ∷ 0 ∷ 0 ∷ 0 ∷ 0 ∷ 0 ∷ 0 ∷ 0 ∷ 0 ∷ 0 ∷ 0 ∷ 0 ∷ 0 ∷ 0 ∷ 0 ∷ []
unfolding word_bytes
word_of_a_small_number = refl

word_of_the_greatest_number : word_bytes (2 ^ 64 - 1) ≡ replicate 8 255
unfolding word_bytes
word_of_the_greatest_number = refl

-- Blocks.

second_block_is_cut_off : block_at (replicate 1024 7 ++ 8 ∷ 9 ∷ []) 1 ≡ 8 ∷ 9 ∷ []
second_block_is_cut_off = refl

-- a block with 31 at place 195 and 0 elsewhere, packed at width 5: byte 31 is f0, and byte 152 is 01
packed_example : List ℕ
packed_example = replicate 31 0 ++ 240 ∷ (replicate 120 0 ++ 1 ∷ replicate 487 0)

-- place 195 stands in strand 3, row 12: its five bits are bits 60 to 64 of the strand
packed_bits : map (strand_bit packed_example 3) (59 ∷ 60 ∷ 61 ∷ 62 ∷ 63 ∷ 64 ∷ 65 ∷ []) ≡ 0 ∷ 1 ∷ 1 ∷ 1 ∷ 1 ∷ 1 ∷ 0 ∷ []
unfolding packed_example
packed_bits = refl

width_of_small_values : map width_of ((0 ∷ 0 ∷ []) ∷ (1 ∷ 0 ∷ []) ∷ (4 ∷ 3 ∷ []) ∷ (7 ∷ 8 ∷ []) ∷ []) ≡ 0 ∷ 1 ∷ 3 ∷ 4 ∷ []
unfolding width_of
width_of_small_values = refl

-- Differences.

difference_below_zero : difference 3 5 ≡ 2 ^ 64 - 2
difference_below_zero = refl

differences_to_the_value_before : delta1_of (10 ∷ 13 ∷ 12 ∷ 12 ∷ []) ≡ 0 ∷ 3 ∷ (2 ^ 64 - 1) ∷ 0 ∷ []
differences_to_the_value_before = refl

sums_give_the_values_back : AreLaggedSums 1 10 (0 ∷ 3 ∷ (2 ^ 64 - 1) ∷ 0 ∷ []) (10 ∷ 13 ∷ 12 ∷ 12 ∷ [])
sums_give_the_values_back = refl

differences_to_sixteen_places_before : delta16_of (10 ∷ 11 ∷ 9 ∷ replicate 13 10 ++ 12 ∷ 11 ∷ 8 ∷ []) ≡ 0 ∷ 1 ∷ (2 ^ 64 - 1) ∷ replicate 13 0 ++ 2 ∷ 0 ∷ (2 ^ 64 - 1) ∷ []
differences_to_sixteen_places_before = refl

differences_to_the_least : reference_of (13 ∷ 10 ∷ 12 ∷ []) ≡ 3 ∷ 0 ∷ 2 ∷ []
differences_to_the_least = refl

base_gives_the_values_back : raised 10 (3 ∷ 0 ∷ 2 ∷ []) ≡ 13 ∷ 10 ∷ 12 ∷ []
base_gives_the_values_back = refl

-- Runs.

runs_of_a_short_list : AreRunsOf (record { value = 7; length = 2 } ∷ record { value = 5; length = 1 } ∷ record { value = 7; length = 3 } ∷ []) (7 ∷ 7 ∷ 5 ∷ 7 ∷ 7 ∷ 7 ∷ [])
runs_of_a_short_list = record {
  cover = refl;
  nonempty = (omega arith, (omega arith, (omega arith, tt)));
  maximal = (λ same. omega (arith, same), (λ same. omega (arith, same), tt));
}

count_of_runs : run_count (7 ∷ 7 ∷ 5 ∷ 7 ∷ 7 ∷ 7 ∷ []) ≡ 3
count_of_runs = refl

equal_neighbours_are_no_runs : NeighboursDiffer (record { value = 7; length = 2 } ∷ record { value = 7; length = 1 } ∷ []) → ⊥
equal_neighbours_are_no_runs differ = differ.0 refl

bytes_of_a_run : run_bytes (record { value = 1; length = 1024 }) ≡ 1 ∷ 0 ∷ 0 ∷ 0 ∷ 0 ∷ 0 ∷ 0 ∷ 0 ∷ 0 ∷ 4 ∷ []
unfolding word_bytes two_bytes
bytes_of_a_run = refl

-- Formats.

formats : List Format
formats = plain ∷ static ∷ dynamic ∷ runs ∷ delta1_dynamic ∷ delta16_dynamic ∷ reference_dynamic ∷ delta1_runs ∷ []

tags_of_formats : map tag_of formats ≡ 0 ∷ 1 ∷ 2 ∷ 3 ∷ 4 ∷ 5 ∷ 6 ∷ 7 ∷ []
unfolding formats
tags_of_formats = refl

-- how long the names are
names_of_formats : map (λ format. length (name_of format)) formats ≡ 5 ∷ 6 ∷ 7 ∷ 4 ∷ 14 ∷ 15 ∷ 17 ∷ 11 ∷ []
unfolding formats
names_of_formats = refl

name_of_a_cascade : name_of delta1_runs ≡ 100 ∷ 101 ∷ 108 ∷ 116 ∷ 97 ∷ 49 ∷ 43 ∷ 114 ∷ 117 ∷ 110 ∷ 115 ∷ []
name_of_a_cascade = refl

one_format_has_a_static_width : map has_static_width formats ≡ false ∷ true ∷ false ∷ false ∷ false ∷ false ∷ false ∷ false ∷ []
unfolding formats
one_format_has_a_static_width = refl
