-- What a counter keeps of a list.
use Rattle.std.specs.Prelude.{◌≡◌, ℕ, ◌%◌, ◌^◌, List, length, sum}

-- this is how many values the list has, and their sum mod 2^64
pub record IsCountOf (count total : ℕ) (list : List ℕ) : Type 0 where
  pub counted : count ≡ length list
  pub added : total ≡ sum list % 2 ^ 64
