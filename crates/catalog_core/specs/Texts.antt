-- Texts, and their order.
use Rattle.std.specs.Prelude.{ℕ, ◌≤◌, Bool, IsUtf8, List, length}
use Rattle.std.specs.Ordering.{nat_cmp, is_lt}
use Rattle.std.specs.Cmp.Lexicographic.{slice_cmp}

-- a text is its bytes
abbrev pub Text : Type 0
Text = List ℕ

-- how many bytes a text has at most
abbrev pub max_text : ℕ
max_text = 65535

-- a text that a dictionary can have
pub record IsText (text : Text) : Type 0 where
  pub short : length text ≤ max_text
  pub utf8 : IsUtf8 text

-- whether a text comes before another: the first byte that differs decides, and else a text comes before the longer ones
abbrev pub is_below : Text → Text → Bool
is_below text other = is_lt (slice_cmp nat_cmp text other)
