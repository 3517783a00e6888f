-- What contracts see of the adapters.
use Rattle.std.specs.Prelude.{ℕ, List, Option}

-- a reader as a source: the bytes that it will give, when they are known, and how many calls have failed
pub record ReaderState : Type 0 where
  pub left : Option (List ℕ)
  pub faults : ℕ

-- a writer as a sink: the bytes that it holds, when they are known, and how many calls have failed
pub record WriterState : Type 0 where
  pub held : Option (List ℕ)
  pub faults : ℕ
