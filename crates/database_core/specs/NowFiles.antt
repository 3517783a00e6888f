-- Where a table's rows stand.
use Rattle.std.specs.Prelude.{◌≡◌, ◌≤◌, ◌↔◌, ℕ, Bool, IsTrue, ◌&&◌, ◌||◌, ◌==◌, nat_le, List, ◌∷◌, ◌++◌, drop, slice_index, codes, Option, Some, None, if◌then◌else◌}
use Rattle.std.specs.Int.{from_le_bytes, w64}
use Rattle.std.specs.Str.{bytes_eq}
use Rattle.definitions_blocks.specs.Columns.{max_rows}
use Rattle.definitions_blocks.specs.Words.{word_bytes}

-- the slot that holds a table's rows, the letter `a` or `b`, and how many rows there are
pub record Now : Type 0 where
  pub slot : ℕ
  pub rows : ℕ

abbrev pub is_slot : ℕ → Bool
is_slot letter = letter == 97 || letter == 98

-- the 13 bytes of a now file: `MNOW`, the letter and the number
abbrev pub now_file : Now → List ℕ
now_file now = codes "MNOW" ++ now.slot ∷ word_bytes now.rows

-- what stands at the letter's and the number's places
abbrev pub now_at : List ℕ → Now
now_at bytes = record { slot = slice_index bytes 4; rows = from_le_bytes w64 (drop 5 bytes) }

-- what a now file says: nothing where the bytes are no now file
abbrev pub now_in : List ℕ → Option Now
now_in bytes =
    if is_slot (now_at bytes).slot && nat_le (now_at bytes).rows max_rows && bytes_eq bytes (now_file (now_at bytes)) then Some (now_at bytes) else None

-- the bytes are the one now file of a slot and a row count
pub record IsNowFile (now : Now) (bytes : List ℕ) : Type 0 where
  pub slot : IsTrue (is_slot now.slot)
  pub few : now.rows ≤ max_rows
  pub bytes_are : bytes ≡ now_file now

-- a now file says what it was made of, and no other bytes say anything
abbrev pub NowFilesAreRead : Type 0
NowFilesAreRead = (now : Now) (bytes : List ℕ) → (now_in bytes ≡ Some now) ↔ IsNowFile now bytes
