use Rattle.std.proofs.Common.{◌≡◌}
use Rattle.std.specs.Prelude.{map}
use Rattle.table_core.specs.Views.{stored_of}
use Rattle.database_core.specs.NowViews.{letter_of}
use Rattle.database_core.specs.SavingSteps.{Between, ChangesOnly}
use Rattle.database_core.specs.TableFiles.{data_file_names}
use Rattle.database_core.proofs.SavingLemmas.{LeftColumns}
use Rattle.database_core.proofs.saving.save_columns.Given as goal

-- the columns that are left, written from here, make up all; only data files changed, and no call of the store failed
abbrev pub invariant-loop-place : goal.invariant-loop-place
invariant-loop-place g l = record {
  left : LeftColumns l.table.name (letter_of l.slot) l.table.columns (map stored_of l.columns) l.place (g.S.Store.files l.fn.store) (g.S.Store.files l.store);
  changes : Between (ChangesOnly (data_file_names l.table (letter_of l.slot))) (g.S.Store.files l.fn.store) (g.S.Store.files l.store);
  calm : g.S.Store.faults l.store ≡ g.S.Store.faults l.fn.store;
}
