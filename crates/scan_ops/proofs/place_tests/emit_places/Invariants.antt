-- the places of the values so far were emitted
use Rattle.std.proofs.Common.{◌≡◌, ◌+◌, ◌*◌, ◌≤◌, length, take}
use Rattle.definitions_blocks.specs.Blocks.{block_values}
use Rattle.definitions_operators.specs.Operators.{passing_places}
use Rattle.scan_ops.proofs.place_tests.emit_places.Given as goal

abbrev pub invariant-loop-number : goal.invariant-loop-number
invariant-loop-number g l = record {
  kept : g.S.BlockSource.list l.values ≡ g.S.BlockSource.list l.fn.values;
  emitted : g.O.Emit.pushed l.out (passing_places (g.T.PlaceTest.passes l.test) (take (l.number * block_values) (g.S.BlockSource.list l.fn.values)));
  frame : g.O.Emit.frame l.out ≡ g.O.Emit.frame l.fn.out;
  later : l.fn.steps ≤ l.steps;
  steps : l.steps ≤ l.fn.steps + l.number + g.T.PlaceTest.cost l.test * length (take (l.number * block_values) (g.S.BlockSource.list l.fn.values));
}
