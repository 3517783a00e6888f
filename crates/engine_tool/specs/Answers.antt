-- The text of an answer.
use Rattle.std.specs.Prelude.{ℕ, List, ◌++◌, Option, Some, None, decimal, codes}

-- a sum in the answer
abbrev pub sum_text : Option ℕ → List ℕ
sum_text None = codes "NULL"
sum_text (Some total) = decimal total

-- the answer's one row
abbrev pub answer_text : Option ℕ → List ℕ
answer_text total = sum_text total ++ codes "\n"
