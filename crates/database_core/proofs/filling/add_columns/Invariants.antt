use Rattle.std.proofs.Common.{◌≡◌, Some, drop}
use Rattle.std.specs.Prelude.{◌==◌, filter}
use Rattle.definitions_outcomes.specs.Outcomes.{Each}
use Rattle.stream_core.specs.Files.{Files}
use Rattle.catalog_core.specs.Columns.{columns_of_table}
use Rattle.database_core.specs.NowViews.{now_view}
use Rattle.database_core.specs.Filling.{Puts, FitsKind, IsFilling}
use Rattle.database_core.specs.Opening.{ColumnStep}
use Rattle.database_core.proofs.LoopLemmas.{Leads}
use Rattle.database_core.proofs.filling.add_columns.Given as goal

-- what is left is not there yet, and, begun from here, gives the whole; no call of the store failed
abbrev pub invariant-loop-id : goal.invariant-loop-id
invariant-loop-id g l = record {
  filling : IsFilling l.schema (drop l.id-index l.needs.columns) l.table l.now.rows l.tables;
  step : (files : Files) → g.S.Store.files l.fn.store ≡ Some files
      → Leads (Each (ColumnStep files l.schema l.definition.name (now_view l.now)) l.tables (filter (λ one. one.table == l.table) (drop l.id-index l.needs.columns)))
      (Each (ColumnStep files l.schema l.definition.name (now_view l.now)) l.fn.tables (columns_of_table l.needs l.table));
  run : Leads (Each (Puts (FitsKind l.schema)) l.tables (filter (λ one. one.table == l.table) (drop l.id-index l.needs.columns)))
      (Each (Puts (FitsKind l.schema)) l.fn.tables (columns_of_table l.needs l.table));
  files : g.S.Store.files l.store ≡ g.S.Store.files l.fn.store;
  calm : g.S.Store.faults l.store ≡ g.S.Store.faults l.fn.store;
}
