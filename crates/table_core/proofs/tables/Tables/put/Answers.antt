use Rattle.std.proofs.Common.{◌≡◌, true, List, Some, None, length, get_or, sym, subst, refl, rules}
use Rattle.std.specs.Prelude.{slice_set}
use Rattle.std.specs.Vec.{with_item}
use Rattle.std.proofs.lemmas.Option.{slice_get_read}
use Rattle.catalog_core.specs.declared.columns.ColumnId.{ColumnId}
use Rattle.table_core.specs.declared.tables.StoredColumn.{StoredColumn}
use Rattle.table_core.specs.declared.tables.Table.{Table}
use Rattle.table_core.specs.Tables.{TableState, AreSound, PutsOnly, rows_of, slot_at, placed, are_codes}
use Rattle.table_core.specs.Held.{AreTablesOf}
use Rattle.table_core.specs.Views.{stored_of, states_of}
use Rattle.table_core.proofs.HeldLemmas.{AreSound-slot, PutsOnly-slot, AreTablesOf-slot, fits_there}
use Rattle.table_core.proofs.TableLemmas.{state_after, slot_after, within_of}
use Rattle.table_core.proofs.tables.Tables.put.Goals as goal

-- the tables once the column is at its place
placed_after : (inside : List Table) (tables : List TableState) (id : ColumnId) (one : Table) (stored : StoredColumn) → states_of inside ≡ tables → slot_at tables id ≡ Some None → one ≡ get_or inside id.table one
    → states_of (slice_set inside id.table (record one { columns = with_item one.columns id.column (Some stored) })) ≡ placed tables id (stored_of stored)
placed_after inside tables id one stored view free is =
    let columns = with_item one.columns id.column (Some stored) in
    let found = slice_get_read inside (length inside) id.table one refl (within_of inside tables id None view free) is in
    slot_after inside tables id one (record one { columns = columns }) (Some (stored_of stored)) view found (state_after one columns.items id.column (Some stored) refl)

pub invariant_of-self : goal.invariant_of-self
invariant_of-self c =
    let tables = c.args.self.now in
    let id = c.args.id in
    let stored : StoredColumn = record { column = c.args.column; dictionary = c.args.dictionary } in
    let rows : rows_of tables id.table ≡ Some (length c.args.column.values) = search rules in
    let codes : are_codes c.args.dictionary c.args.column.values ≡ true = search rules in
    subst AreSound (sym (placed_after c.self.inside.tables.items tables id c.index_mut-table.result.now stored c.self.view_is c.requires.free c.index_mut-table.ensures.value))
    (AreSound-slot tables id (Some (stored_of stored)) (subst AreSound c.self.view_is c.self.invariant) (rows, codes))

pub returns-clause-ok : goal.returns-clause-ok
returns-clause-ok c =
    let stored : StoredColumn = record { column = c.args.column; dictionary = c.args.dictionary } in
    placed_after c.self.inside.tables.items c.args.self.now c.args.id c.index_mut-table.result.now stored c.self.view_is c.requires.free c.index_mut-table.ensures.value

pub returns-clause-only : goal.returns-clause-only
returns-clause-only c =
    let tables = c.args.self.now in
    let id = c.args.id in
    let stored : StoredColumn = record { column = c.args.column; dictionary = c.args.dictionary } in
    subst (PutsOnly id (Some (stored_of stored)) tables) (sym (placed_after c.self.inside.tables.items tables id c.index_mut-table.result.now stored c.self.view_is c.requires.free c.index_mut-table.ensures.value))
    (PutsOnly-slot tables id None (Some (stored_of stored)) c.requires.free)

pub returns-clause-of : goal.returns-clause-of
returns-clause-of c =
    let tables = c.args.self.now in
    let id = c.args.id in
    let stored : StoredColumn = record { column = c.args.column; dictionary = c.args.dictionary } in
    λ schema of fits. subst (AreTablesOf schema) (sym (placed_after c.self.inside.tables.items tables id c.index_mut-table.result.now stored c.self.view_is c.requires.free c.index_mut-table.ensures.value))
    (AreTablesOf-slot schema tables id None (Some (stored_of stored)) c.requires.free (fits_there schema id (stored_of stored) fits) of)
