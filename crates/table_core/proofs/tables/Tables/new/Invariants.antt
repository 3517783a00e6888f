use Rattle.std.proofs.Common.{◌≡◌, map, take}
use Rattle.table_core.specs.Tables.{state_of}
use Rattle.table_core.specs.Views.{state_of_table}
use Rattle.table_core.proofs.tables.Tables.new.Given as goal

-- the tables so far
abbrev pub invariant-loop-definition : goal.invariant-loop-definition
invariant-loop-definition l = map state_of_table l.tables.items ≡ map state_of (take l.definition-index l.definitions)
