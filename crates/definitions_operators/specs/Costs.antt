-- How many steps operators take.
use Rattle.std.specs.Prelude.{ℕ, ◌+◌, ◌/◌, List, length}

-- how many blocks a list has: a block has 1,024 values, and the last one may have fewer
abbrev pub block_count : List ℕ → ℕ
block_count values = (length values + 1023) / 1024
