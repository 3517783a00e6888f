use Rattle.std.proofs.Common.{◌∙◌, None, List, Option, replicate, length, refl, ap}
use Rattle.catalog_core.specs.declared.schemas.ColumnDef.{ColumnDef}
use Rattle.table_core.specs.declared.tables.StoredColumn.{StoredColumn}
use Rattle.table_core.proofs.TableLemmas.{state_yet}
use Rattle.table_core.proofs.tables.table_of.Goals as goal

pub returns : goal.returns
returns c =
    let none : List ColumnDef → List (Option StoredColumn) = λ columns. replicate (length columns) None in
    state_yet (record { key = c.args.definition.now.key; rows = None; columns = c.in_ok-columns.columns }) c.args.definition.now refl refl (c.in_ok-columns.ensures ∙ ap none c.as_slice.ensures)
