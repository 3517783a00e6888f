-- The definitions at worked values, which were computed by hand.
use Rattle.std.proofs.Common.{◌≡◌, ℕ, List, [], ◌∷◌, ◌++◌, replicate, refl, arith}
use Rattle.definitions_blocks.specs.Words.{word_bytes}
use Rattle.definitions_blocks.specs.Formats.{plain, static, dynamic, runs}
use Rattle.definitions_blocks.specs.Encodings.{width_of}
use Rattle.definitions_columns.specs.ColumnFiles.{first, second, column_head, whole_blocks, static_width_of, next_width, tail_width_of, starts_from, directory_of, IsColumnFile}
use Rattle.definitions_columns.specs.Sizes.{size_of}
use Rattle.definitions_columns.proofs.WorkedTails.{three_values_at_seven_bits}

-- the file of 35, 80 and 10 in `runs`: a head, and the three values packed at 7 bits
three_values : List ℕ
three_values = 35 ∷ 80 ∷ 10 ∷ []

three_values_file : List ℕ
three_values_file = 77 ∷ 67 ∷ 79 ∷ 76 ∷ 2 ∷ 3 ∷ 0 ∷ 7 ∷ 3 ∷ 0 ∷ 0 ∷ 0 ∷ 0 ∷ 0 ∷ 0 ∷ 0 ∷ 35 ∷ 168 ∷ 2 ∷ []

three_values_are_all_tail : IsColumnFile runs three_values three_values_file
unfolding three_values three_values_file word_bytes width_of
three_values_are_all_tail = record {
  column = record { few = omega arith; words = (omega arith, (omega arith, (omega arith, tt))) };
  pieces = [];
  tail = three_values;
  tail_bytes = 35 ∷ 168 ∷ 2 ∷ [];
  blocks = tt;
  short = omega arith;
  packed = three_values_at_seven_bits;
  values_are = refl;
  bytes_are = refl;
}

three_values_take_19_bytes : size_of runs three_values ≡ 19
unfolding three_values width_of
three_values_take_19_bytes = refl

three_values_take_40_bytes_as_words : size_of plain three_values ≡ 40
unfolding three_values
three_values_take_40_bytes_as_words = refl

-- the head of a column of 1,025 values in `static` with width 3, whose last value has 5 bits
head_of_a_static_column : column_head second 1 3 5 1025 ≡ 77 ∷ 67 ∷ 79 ∷ 76 ∷ 2 ∷ 1 ∷ 3 ∷ 5 ∷ 1 ∷ 4 ∷ 0 ∷ 0 ∷ 0 ∷ 0 ∷ 0 ∷ 0 ∷ []
unfolding word_bytes
head_of_a_static_column = refl

-- in the first version the head says nothing of the tail
head_of_the_first_version : column_head first 1 3 64 1025 ≡ 77 ∷ 67 ∷ 79 ∷ 76 ∷ 1 ∷ 1 ∷ 3 ∷ 0 ∷ 1 ∷ 4 ∷ 0 ∷ 0 ∷ 0 ∷ 0 ∷ 0 ∷ 0 ∷ []
unfolding word_bytes
head_of_the_first_version = refl

tails_of_plain_columns_are_words : tail_width_of second plain (3 ∷ []) ≡ 64
tails_of_plain_columns_are_words = refl

tails_of_the_first_version_are_words : tail_width_of first runs (3 ∷ []) ≡ 64
tails_of_the_first_version_are_words = refl

tails_are_packed_at_the_least_width : tail_width_of second static (3 ∷ 9 ∷ []) ≡ 4
unfolding width_of
tails_are_packed_at_the_least_width = refl

width_of_a_block_more : next_width static 3 (200 ∷ []) ≡ 8
unfolding width_of
width_of_a_block_more = refl

no_width_of_a_block_more : next_width dynamic 0 (200 ∷ []) ≡ 0
no_width_of_a_block_more = refl

tail_has_no_static_width : static_width_of static (200 ∷ []) ≡ 0
unfolding width_of
tail_has_no_static_width = refl

starts_of_pieces : starts_from 16 (record { values = []; encoding = 1 ∷ 2 ∷ 3 ∷ [] } ∷ record { values = []; encoding = 4 ∷ [] } ∷ record { values = []; encoding = [] } ∷ []) ≡ 16 ∷ 19 ∷ 20 ∷ []
starts_of_pieces = refl

-- two blocks stand behind a head of 16 bytes and two entries of 8
directory_of_two_blocks : directory_of second dynamic (record { values = []; encoding = 1 ∷ 2 ∷ 3 ∷ [] } ∷ record { values = []; encoding = 4 ∷ [] } ∷ []) ≡ word_bytes 32 ++ word_bytes 35
unfolding word_bytes
directory_of_two_blocks = refl

no_directory_of_static_blocks : directory_of second static (record { values = []; encoding = 1 ∷ [] } ∷ []) ≡ []
no_directory_of_static_blocks = refl

no_directory_in_the_first_version : directory_of first dynamic (record { values = []; encoding = 1 ∷ [] } ∷ []) ≡ []
no_directory_in_the_first_version = refl

whole_blocks_leave_the_tail : whole_blocks (replicate 1024 7 ++ 8 ∷ []) ≡ replicate 1024 7
whole_blocks_leave_the_tail = refl
