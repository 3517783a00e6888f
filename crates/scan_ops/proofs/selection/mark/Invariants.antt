-- the rows that stay, and those that the values left will give, are the block's position list, moved by `first`
use Rattle.std.proofs.Common.{◌≡◌, ◌+◌, ◌≤◌, ◌++◌, map, take, drop}
use Rattle.definitions_operators.specs.Operators.{positions_in}
use Rattle.definitions_operators.proofs.PositionLaws.{positions_from}
use Rattle.scan_ops.proofs.selection.mark.Given as goal

abbrev pub invariant-loop-value : goal.invariant-loop-value
invariant-loop-value l = record {
  count : l.kept ≤ l.value-index;
  row : l.row ≡ l.first + l.value-index;
  rows : take l.kept l.rows ++ positions_from l.row l.low l.high (drop l.value-index l.values) ≡ map (λ place. l.first + place) (positions_in l.low l.high l.values);
}
