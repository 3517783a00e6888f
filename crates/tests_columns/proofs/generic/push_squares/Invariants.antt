use Rattle.std.proofs.Common.{◌≡◌}
use Rattle.tests_columns.specs.Squares.{squares}
use Rattle.tests_columns.proofs.generic.push_squares.Given as goal

-- the squares so far were pushed
abbrev pub invariant-loop-number : goal.invariant-loop-number
invariant-loop-number g l = record {
  taken : g.E.Emit.pushed l.into (squares l.number);
  frame : g.E.Emit.frame l.into ≡ g.E.Emit.frame l.fn.into;
}
