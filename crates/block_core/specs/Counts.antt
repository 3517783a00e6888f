-- Counts of steps.
use Rattle.std.specs.Prelude.{ℕ, ◌+◌, ◌-◌, ◌^◌, min}

-- a count so much greater, up to the greatest that 64 bits hold
abbrev pub later_count : ℕ → ℕ → ℕ
later_count count steps = min (count + steps) (2 ^ 64 - 1)

-- a count one greater
abbrev pub next_count : ℕ → ℕ
next_count count = later_count count 1
