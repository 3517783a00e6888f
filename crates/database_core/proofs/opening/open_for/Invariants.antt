use Rattle.std.proofs.Common.{◌≡◌, Some, drop}
use Rattle.definitions_outcomes.specs.Outcomes.{Each}
use Rattle.stream_core.specs.Files.{Files}
use Rattle.table_core.specs.Tables.{nothing_yet}
use Rattle.database_core.specs.Filling.{FillsSome, IsEmpty}
use Rattle.database_core.specs.Opening.{TableStep, Opened}
use Rattle.database_core.proofs.LoopLemmas.{Leads}
use Rattle.database_core.proofs.opening.open_for.Given as goal

-- what is left is empty, and, begun from here, gives the whole; no call of the store failed
abbrev pub invariant-loop-table : goal.invariant-loop-table
invariant-loop-table g l = record {
  empty : IsEmpty l.schema l.needs l.tables (drop l.table-index l.needs.tables);
  step : (files : Files) → g.S.Store.files l.fn.store ≡ Some files → Leads (Each (TableStep files l.schema l.needs) l.tables (drop l.table-index l.needs.tables)) (Opened files l.schema l.needs);
  run : Leads (Each (FillsSome l.schema l.needs) l.tables (drop l.table-index l.needs.tables)) (Each (FillsSome l.schema l.needs) (nothing_yet l.schema) l.needs.tables);
  files : g.S.Store.files l.store ≡ g.S.Store.files l.fn.store;
  calm : g.S.Store.faults l.store ≡ g.S.Store.faults l.fn.store;
}
