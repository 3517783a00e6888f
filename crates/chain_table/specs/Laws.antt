-- The law of walks.
use Rattle.std.specs.Prelude.{◌≡◌, ℕ, List, length, reverse, Option}
use Rattle.definitions_operators.specs.Operators.{places_of}
use Rattle.chain_table.specs.Entries.{IsNewestBelow, IsWalk}

-- the walk from the newest entry of a key meets just the entries that have the key, newest first,
abbrev pub WalksMeetEntries : Type 0
WalksMeetEntries = (keys : List ℕ) (key : ℕ) (first : Option ℕ) (walk : List ℕ) → IsNewestBelow keys key (length keys) first → IsWalk keys key first walk
    → walk ≡ reverse (places_of keys key)

-- and it ends
abbrev pub WalksEnd : Type 0
WalksEnd = (keys : List ℕ) (key : ℕ) (first : Option ℕ) → IsNewestBelow keys key (length keys) first → (walk : List ℕ) × IsWalk keys key first walk
