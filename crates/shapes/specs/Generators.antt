-- A source of random numbers.
use Rattle.std.specs.Prelude.{ℕ, ◌+◌, ◌*◌, ◌%◌, ◌^◌}

-- the state after a state of 64 bits
abbrev pub state_after : ℕ → ℕ
state_after state = (6364136223846793005 * state + 1442695040888963407) % 2 ^ 64
