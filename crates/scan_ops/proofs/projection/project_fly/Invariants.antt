-- the values at the places so far were emitted
use Rattle.std.proofs.Common.{◌≡◌, ◌+◌, ◌*◌, ◌≤◌, length, take}
use Rattle.definitions_blocks.specs.Blocks.{block_values}
use Rattle.definitions_operators.specs.Operators.{values_at}
use Rattle.scan_ops.proofs.projection.project_fly.Given as goal

abbrev pub invariant-loop-number : goal.invariant-loop-number
invariant-loop-number g l = record {
  kept_values : g.V.PlaceSource.list l.values ≡ g.V.PlaceSource.list l.fn.values;
  kept_places : g.P.BlockSource.list l.places ≡ g.P.BlockSource.list l.fn.places;
  emitted : g.O.Emit.pushed l.out (values_at (g.V.PlaceSource.list l.fn.values) (take (l.number * block_values) (g.P.BlockSource.list l.fn.places)));
  frame : g.O.Emit.frame l.out ≡ g.O.Emit.frame l.fn.out;
  later : l.fn.steps ≤ l.steps;
  steps : l.steps ≤ l.fn.steps + l.number + 1 * length (take (l.number * block_values) (g.P.BlockSource.list l.fn.places));
}
