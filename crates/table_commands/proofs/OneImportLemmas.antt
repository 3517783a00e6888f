-- An import has one answer at most.
use Rattle.std.proofs.Common.{◌≡◌, ℕ, List, map, sym, ap, subst, ◌∙◌}
use Rattle.definitions_outcomes.specs.Outcomes.{Gives, Then, HasOneEnd}
use Rattle.definitions_outcomes.proofs.OutcomeLaws.{Gives-one, Then-one}
use Rattle.stream_core.specs.Files.{Files}
use Rattle.catalog_core.specs.declared.schemas.TableDef.{TableDef}
use Rattle.table_core.specs.Tables.{Stored}
use Rattle.database_core.specs.Saving.{row_count}
use Rattle.table_import.specs.Imports.{Row}
use Rattle.table_import.specs.declared.tables.ColumnValues.{ColumnValues}
use Rattle.table_import.proofs.ImportLaws.{one_import}
use Rattle.table_commands.specs.declared.databases.Found.{Found}
use Rattle.table_commands.specs.Refusals.{limited}
use Rattle.table_commands.specs.Databases.{TableStep, definition_of}
use Rattle.table_commands.specs.Importing.{max_import, import_too_long, rows_in, data_of, AreImported, IsImport, ImportOf, ReadyImport, ImportReply, imported_line}
use Rattle.table_commands.specs.Saving.{Ready, AreStoredAs, There, SavedAnswer}
use Rattle.table_commands.proofs.OneReplyLemmas.{TableStep-one, There-one, SavedAnswer-one, one_storing, one_of_parts}

one_columns : (table : TableDef) (rows : List Row) (columns other : List Stored) → AreImported table rows columns → AreImported table rows other → columns ≡ other
one_columns table rows columns other (values, held, are) (all, also, be) =
    let same : values ≡ all = one_import table rows values all held also in
    one_storing table.columns (map data_of values) columns other are (subst (λ (list : List ColumnValues). AreStoredAs table.columns (map data_of list) other) (sym same) be)

one_ready : (table : TableDef) (rows : List Row) (ready other : Ready) → IsImport table rows ready → IsImport table rows other → ready ≡ other
one_ready table rows ready other (is, are, line) (be, also, same) =
    let columns : ready.columns ≡ other.columns = one_columns table rows ready.columns other.columns are also in
    let lines : ready.line ≡ other.line = line ∙ ap (λ (c : List Stored). imported_line table (row_count c)) columns ∙ sym same in
    one_of_parts ready other (is ∙ sym be) columns lines

ImportOf-one : (text : List ℕ) (found : Found) → HasOneEnd (ImportOf text found)
ImportOf-one text found =
    let table = definition_of found in
    Then-one (Gives (limited max_import import_too_long text)) (λ bytes. Then (Gives (rows_in table bytes)) (λ rows. There (IsImport table rows)))
    (Gives-one (limited max_import import_too_long text))
    (λ bytes. Then-one (Gives (rows_in table bytes)) (λ rows. There (IsImport table rows)) (Gives-one (rows_in table bytes)) (λ rows. There-one (IsImport table rows) (one_ready table rows)))

ReadyImport-one : (files : Files) (name text : List ℕ) → HasOneEnd (ReadyImport files name text)
ReadyImport-one files name text = Then-one (TableStep files name) (ImportOf text) (TableStep-one files name) (ImportOf-one text)

pub ImportReply-one : (files : Files) (name text : List ℕ) → HasOneEnd (ImportReply files name text)
ImportReply-one files name text = Then-one (ReadyImport files name text) (SavedAnswer files) (ReadyImport-one files name text) (SavedAnswer-one files)
