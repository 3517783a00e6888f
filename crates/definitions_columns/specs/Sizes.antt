-- How long the files of a column are, as they are written.
use Rattle.std.specs.Prelude.{ℕ, zero, suc, ◌+◌, ◌*◌, ◌/◌, ◌%◌, Bool, ◌&&◌, nat_le, List, length}
use Rattle.definitions_blocks.specs.Blocks.{block_values, block_at}
use Rattle.definitions_blocks.specs.Encodings.{width_of}
use Rattle.definitions_blocks.specs.Differences.{delta1_of, delta16_of, reference_of}
use Rattle.definitions_blocks.specs.Runs.{run_count}
use Rattle.definitions_blocks.specs.Formats.{Format, plain, static, dynamic, runs, delta1_dynamic, delta16_dynamic, reference_dynamic, delta1_runs}
use Rattle.definitions_columns.specs.Tails.{packed_len}
use Rattle.definitions_columns.specs.ColumnFiles.{second, static_width_of, tail_width_of, first_start}

-- a number for each of so many first blocks of a list, summed up
abbrev pub sum_blocks : (List ℕ → ℕ) → List ℕ → ℕ → ℕ
sum_blocks number_of values zero = 0
sum_blocks number_of values (suc n) = sum_blocks number_of values n + number_of (block_at values n)

-- how long a block is with a width byte, packed at its own width
abbrev pub dynamic_size : List ℕ → ℕ
dynamic_size values = 1 + 128 * width_of values

-- how long a block is as its runs
abbrev pub runs_size : List ℕ → ℕ
runs_size values = 2 + 10 * run_count values

-- how long a full block's encoding is
abbrev pub block_size : Format → ℕ → List ℕ → ℕ
block_size plain width values = 8192
block_size static width values = 128 * width
block_size dynamic width values = dynamic_size values
block_size runs width values = runs_size values
block_size delta1_dynamic width values = 8 + dynamic_size (delta1_of values)
block_size delta16_dynamic width values = 8 + dynamic_size (delta16_of values)
block_size reference_dynamic width values = 8 + dynamic_size (reference_of values)
block_size delta1_runs width values = 8 + runs_size (delta1_of values)

-- how many whole blocks a list has
abbrev pub whole_count : List ℕ → ℕ
whole_count values = length values / block_values

-- how long the whole blocks of a list are
abbrev pub blocks_size : Format → ℕ → List ℕ → ℕ
blocks_size format width values = sum_blocks (block_size format width) values (whole_count values)

-- how long the head, the directory and the whole blocks of a list are
abbrev pub front_size : Format → ℕ → List ℕ → ℕ
front_size format width values = first_start second format (whole_count values) + blocks_size format width values

-- where the whole block of this number starts in a list's file
abbrev pub block_start : Format → ℕ → List ℕ → ℕ → ℕ
block_start format width values number = first_start second format (whole_count values) + sum_blocks (block_size format width) values number

-- the values after the last whole block
abbrev pub tail_of : List ℕ → List ℕ
tail_of values = block_at values (whole_count values)

-- how long a list's file is at a width
abbrev pub file_size : Format → ℕ → List ℕ → ℕ
file_size format width values = front_size format width values + packed_len (length values % block_values) (tail_width_of second format (tail_of values))

-- how long a list's one file is in a format
abbrev pub size_of : Format → List ℕ → ℕ
size_of format values = file_size format (static_width_of format values) values

-- whether the head, the directory and the whole blocks of a list are within so many bytes, and its count within so many values
abbrev pub is_within_room : Format → ℕ → ℕ → ℕ → List ℕ → Bool
is_within_room format width bytes count values = nat_le (front_size format width values) bytes && nat_le (length values) count
