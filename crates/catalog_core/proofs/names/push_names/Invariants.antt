use Rattle.std.proofs.Common.{◌≡◌, ◌++◌, map, take}
use Rattle.catalog_core.proofs.names.push_names.Given as goal

-- the names before, and those so far
abbrev pub invariant-loop-column : goal.invariant-loop-column
invariant-loop-column l = map (λ name. name.now) l.names.items ≡ map (λ name. name.now) l.initial.names.items ++ map (λ column. column.name) (take l.column-index l.columns)
