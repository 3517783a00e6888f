use Rattle.std.proofs.Common.{◌≡◌, ◌++◌, drop}
use Rattle.plan_core.specs.Explained.{doubled}
use Rattle.plan_core.proofs.explained.push_doubled.Given as goal

-- the bytes that are left make the whole
abbrev pub invariant-loop-byte : goal.invariant-loop-byte
invariant-loop-byte l = l.text.items ++ doubled (drop l.byte-index l.bytes) ≡ l.initial.text.items ++ doubled l.bytes
