-- Counts of failed calls.
use Rattle.std.specs.Prelude.{ℕ, ◌+◌, ◌-◌, ◌^◌, ◌≤◌, min, Result, Ok, Err}

-- a count one greater, up to the greatest that 64 bits hold
abbrev pub next_count : ℕ → ℕ
next_count count = min (count + 1) (2 ^ 64 - 1)

-- the count rose, or stands still at its greatest value
abbrev pub Rose : ℕ → ℕ → Type 0
Rose before after = next_count before ≤ after

-- a call that failed made the count rise
abbrev pub HasCause : {A E : Type 0} → ℕ → ℕ → Result A E → Type 0
HasCause before after (Ok value) = Unit {0}
HasCause before after (Err failed) = Rose before after
