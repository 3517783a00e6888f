use Rattle.std.proofs.Common.{◌≡◌, ◌∙◌, sym, ap, ap₂, subst, refl, length, Some, List, ℕ, arith}
use Rattle.std.specs.List.{range_with_len, flat_map}
use Rattle.std.proofs.lemmas.Option.{slice_get_read}
use Rattle.catalog_core.specs.Columns.{IsNeeds, table_at, columns_in}
use Rattle.catalog_core.specs.declared.columns.ColumnId.{ColumnId}
use Rattle.catalog_core.specs.declared.columns.Needs.{Needs}
use Rattle.catalog_core.specs.declared.schemas.TableDef.{TableDef}
use Rattle.catalog_core.proofs.ColumnLemmas.{table_pushed, columns_pushed, all_tables_IsNeeds}
use Rattle.catalog_core.proofs.columns.Needs.of_all.Goals as goal

pub returns-clause-needs : goal.returns-clause-needs
returns-clause-needs c =
    let l = c.loop-table in
    let all = ap length c.as_slice-all.ensures in
    let done : l.table ≡ length c.args.schema.now.tables = omega arith in
    let needs : List ℕ → List ColumnId → Needs = λ tables columns. record { tables = tables; columns = columns } in
    ap₂ needs (c.from_vec.ensures ∙ l.invariant.tables ∙ ap (range_with_len 0) done)
    (c.from_vec-2.ensures ∙ l.invariant.columns ∙ ap (λ count. flat_map (columns_in c.args.schema.now) (range_with_len 0 count)) done)

pub returns-clause-ordered : goal.returns-clause-ordered
returns-clause-ordered c =
    subst (IsNeeds c.args.schema.now) (sym (returns-clause-needs c)) (all_tables_IsNeeds c.args.schema.now)

pub loop-table-preserved : goal.loop-table-preserved
loop-table-preserved c =
    let l = c.loop-table in
    let schema = c.args.schema.now in
    let one = c.index-all-table.result in
    let all = c.as_slice-all.ensures in
    let is : table_at schema l.table ≡ Some one =
    rw (← all) (slice_get_read c.as_slice-all.result.now _ l.table one refl c.loop-table-test.true c.index-all-table.is) in
    record {
      tables = table_pushed l.tables.items c.push.new.self.items l.table l.invariant.tables c.in_ok-push.ensures.items;
      columns = columns_pushed schema one l.columns.items c.push_columns.new.columns.items l.table (length c.as_slice.result.now) is
          (ap length c.as_slice.ensures ∙ ap (λ (table : TableDef). length table.columns) (sym c.index-all-table.is)) l.invariant.columns c.in_ok-push_columns.ensures;
    }
