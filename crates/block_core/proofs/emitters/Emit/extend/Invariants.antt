-- the first values were appended
use Rattle.std.proofs.Common.{◌≡◌, ℕ, List, ◌++◌, take}
use Rattle.block_core.proofs.emitters.Emit.extend.Given as goal

abbrev pub invariant-loop-value : goal.invariant-loop-value
invariant-loop-value g l = record {
  taken : (list : List ℕ) → g.Self.Emit.pushed l.fn.self list → g.Self.Emit.pushed l.self (list ++ take l.value-index l.values);
  frame : g.Self.Emit.frame l.self ≡ g.Self.Emit.frame l.fn.self;
}
