use Rattle.std.proofs.Common.{◌≡◌, map, take}
use Rattle.catalog_core.specs.Schemas.{table_names}
use Rattle.catalog_core.proofs.names.table_names.Given as goal

-- the names so far
abbrev pub invariant-loop-table : goal.invariant-loop-table
invariant-loop-table l = map (λ name. name.now) l.names.items ≡ table_names (take l.table-index l.tables)
