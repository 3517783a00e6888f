use Rattle.std.proofs.Common.{◌≡◌, ◌∙◌, ◌++◌, sym, ap, ap₂, subst, refl, length, Some, List, ℕ}
use Rattle.std.proofs.lemmas.Option.{slice_get_read}
use Rattle.catalog_core.specs.Columns.{IsNeeds, table_at}
use Rattle.catalog_core.specs.CountedColumns.{counted_columns}
use Rattle.catalog_core.specs.declared.columns.ColumnId.{ColumnId}
use Rattle.catalog_core.specs.declared.columns.Needs.{Needs}
use Rattle.catalog_core.specs.declared.schemas.TableDef.{TableDef}
use Rattle.catalog_core.proofs.ColumnLemmas.{count_there, one_table_IsNeeds}
use Rattle.catalog_core.proofs.columns.Needs.of_table.Goals as goal

pub returns-clause-needs : goal.returns-clause-needs
returns-clause-needs c =
    let schema = c.args.schema.now in
    let one = c.index-as_slice-table.result in
    let is : table_at schema c.args.table ≡ Some one =
    rw (← c.as_slice.ensures) (slice_get_read c.as_slice.result.now _ c.args.table one refl (rw c.as_slice.ensures c.requires.within) c.index-as_slice-table.is) in
    let count = ap length c.as_slice-2.ensures ∙ ap (λ (table : TableDef). length table.columns) (sym c.index-as_slice-table.is)
    ∙ sym (count_there schema one c.args.table is) in
    let needs : List ℕ → List ColumnId → Needs = λ tables columns. record { tables = tables; columns = columns } in
    ap₂ needs (c.from_vec.ensures ∙ c.in_ok-vec.ensures.items)
    (c.from_vec-2.ensures ∙ c.in_ok-push_columns.ensures ∙ ap (λ before. before ++ counted_columns c.args.table (length c.as_slice-2.result.now)) c.new-columns.ensures.items
    ∙ ap (counted_columns c.args.table) count)

pub returns-clause-ordered : goal.returns-clause-ordered
returns-clause-ordered c =
    subst (IsNeeds c.args.schema.now) (sym (returns-clause-needs c)) (one_table_IsNeeds c.args.schema.now c.args.table c.requires.within)
