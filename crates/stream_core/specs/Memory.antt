-- What contracts see of the forms in memory.
use Rattle.std.specs.Prelude.{ℕ, Bool, ◌||◌, ◌&&◌, List, length, nat_eq, nat_lt, nat_le, if◌then◌else◌}
use Rattle.std.specs.List.{list_any}
use Rattle.stream_core.specs.Faults.{next_count}

-- whether the call of this number is to fail
abbrev pub is_failing : List ℕ → ℕ → Bool
is_failing failing call = list_any (λ number. nat_eq number call) failing

-- a source: the bytes that are left, how many it hands out at once, the numbers of the calls that fail, the number of the
-- next call, and how many have failed
pub record SourceState : Type 0 where
  pub left : List ℕ
  pub piece : ℕ
  pub failing : List ℕ
  pub calls : ℕ
  pub faults : ℕ

-- a sink: the bytes that it took, how many it takes in all, and the same numbers
pub record SinkState : Type 0 where
  pub taken : List ℕ
  pub capacity : ℕ
  pub failing : List ℕ
  pub calls : ℕ
  pub faults : ℕ

-- whether a sink's next write fails: its number says so, or the piece isn't empty and nothing fits
abbrev pub cannot_write : SinkState → List ℕ → Bool
cannot_write sink piece = is_failing sink.failing sink.calls || (nat_le sink.capacity (length sink.taken) && nat_lt 0 (length piece))

-- how many calls have failed after the next one
abbrev pub faults_after : List ℕ → ℕ → ℕ → ℕ
faults_after failing call faults = if is_failing failing call then next_count faults else faults
