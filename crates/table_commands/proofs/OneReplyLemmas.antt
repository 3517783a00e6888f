-- The commands over tables have one answer at most.
use Rattle.std.proofs.Common.{◌≡◌, ℕ, List, [], ◌∷◌, Result, Ok, Err, Option, refl, sym, ap, ap₂, subst, ◌∙◌}
use Rattle.definitions_outcomes.specs.Outcomes.{Gives, HasOneEnd}
use Rattle.definitions_outcomes.proofs.OutcomeLaws.{same_value, same_refusal, Gives-one, OneOrFault-one, Then-one}
use Rattle.stream_core.specs.Files.{Files}
use Rattle.block_core.specs.Formats.{format_of}
use Rattle.block_core.specs.declared.formats.FormatChoice.{FormatChoice}
use Rattle.block_core.specs.declared.formats.FormatChoice.TheVariants.{Fixed, Auto}
use Rattle.column_core.specs.Columns.{Shape, shape}
use Rattle.catalog_core.specs.Texts.{Text}
use Rattle.catalog_core.specs.declared.schemas.TableDef.{TableDef}
use Rattle.column_core.proofs.HeadLemmas.{format_of-one}
use Rattle.size_chooser.specs.FileSizes.{IsLeast}
use Rattle.size_chooser.proofs.LeastLemmas.{one_least}
use Rattle.catalog_core.specs.Columns.{needs_of_all, needs_of_table}
use Rattle.catalog_core.specs.Schemas.{SchemaOf}
use Rattle.catalog_core.specs.declared.columns.Needs.{Needs}
use Rattle.catalog_core.specs.declared.schemas.ColumnDef.{ColumnDef}
use Rattle.catalog_core.specs.declared.schemas.Schema.{Schema}
use Rattle.catalog_core.proofs.SchemaLaws.{one_schema}
use Rattle.table_core.specs.Tables.{Stored, TableState}
use Rattle.database_core.specs.Opening.{Opened}
use Rattle.database_core.specs.Saving.{File, row_count}
use Rattle.database_core.specs.TableFiles.{slot_to_write}
use Rattle.database_core.proofs.OneOpeningLemmas.{one_opening}
use Rattle.database_core.proofs.SavedLemmas.{one_data}
use Rattle.answer_text.specs.Checks.{check_text}
use Rattle.answer_text.specs.Exports.{export_text}
use Rattle.table_commands.specs.declared.databases.Found.{Found}
use Rattle.table_commands.specs.Databases.{schema_bytes, SchemaIn, SchemaStep, TableStep, OpenedIn, found_in, definition_of, bad_schema, bad_database}
use Rattle.table_commands.specs.Checking.{CheckOf, CheckReply}
use Rattle.table_commands.specs.Exporting.{WholeTable, ExportOf, ExportReply}
use Rattle.table_commands.specs.Reformatting.{IsReformat, ReformatOf, ReadyReformat, ReformatReply, held_in, reformatted_line}
use Rattle.table_commands.specs.Saving.{There, Data, IsInFormat, IsStoredAs, AreStoredAs, Ready, Answer, IsSaved, SavedAnswer, written}

ok_not_err : {A E : Type 0} (value : A) (refusal : E) → ◌≡◌ {A = Result A E} (Ok value) (Err refusal) → ⊥
ok_not_err value refusal same = cc

-- a text is one schema, or has one first refusal
SchemaIn-one : (bytes : List ℕ) → HasOneEnd (SchemaIn bytes)
SchemaIn-one bytes =
    OneOrFault-one (λ schema. SchemaOf bytes (Ok schema)) (λ refusal. SchemaOf bytes (Err refusal)) bad_schema
    (λ schema other p q. same_value schema other (one_schema bytes (Ok schema) (Ok other) p q))
    (λ refusal other p q. same_refusal refusal other (one_schema bytes (Err refusal) (Err other) p q))
    (λ schema refusal p q. ok_not_err schema refusal (one_schema bytes (Ok schema) (Err refusal) p q))

pub SchemaStep-one : (files : Files) → HasOneEnd (SchemaStep files)
SchemaStep-one files = Then-one (Gives (schema_bytes files)) SchemaIn (Gives-one (schema_bytes files)) SchemaIn-one

pub TableStep-one : (files : Files) (name : List ℕ) → HasOneEnd (TableStep files name)
TableStep-one files name = Then-one (SchemaStep files) (λ schema. Gives (found_in schema name)) (SchemaStep-one files) (λ schema. Gives-one (found_in schema name))

-- files open in one way, or have one first fault
OpenedIn-one : (files : Files) (schema : Schema) (needs : Needs) → HasOneEnd (OpenedIn files schema needs)
OpenedIn-one files schema needs =
    OneOrFault-one (λ tables. Opened files schema needs (Ok tables)) (λ error. Opened files schema needs (Err error)) (bad_database schema)
    (λ tables others p q. same_value tables others (one_opening files schema needs (Ok tables) (Ok others) p q))
    (λ error other p q. same_refusal error other (one_opening files schema needs (Err error) (Err other) p q))
    (λ tables error p q. ok_not_err tables error (one_opening files schema needs (Ok tables) (Err error) p q))

CheckOf-one : (files : Files) (schema : Schema) → HasOneEnd (CheckOf files schema)
CheckOf-one files schema =
    Then-one (OpenedIn files schema (needs_of_all schema)) (λ tables. Gives (Ok (check_text schema tables))) (OpenedIn-one files schema (needs_of_all schema))
    (λ tables. Gives-one (Ok (check_text schema tables)))

pub CheckReply-one : (files : Files) → HasOneEnd (CheckReply files)
CheckReply-one files = Then-one (SchemaStep files) (CheckOf files) (SchemaStep-one files) (CheckOf-one files)

WholeTable-one : (files : Files) (found : Found) → HasOneEnd (WholeTable files found)
WholeTable-one files found = OpenedIn-one files found.schema (needs_of_table found.schema found.table)

ExportOf-one : (files : Files) (found : Found) → HasOneEnd (ExportOf files found)
ExportOf-one files found =
    Then-one (WholeTable files found) (λ tables. Gives (Ok (export_text found.schema found.table tables))) (WholeTable-one files found)
    (λ tables. Gives-one (Ok (export_text found.schema found.table tables)))

pub ExportReply-one : (files : Files) (name : List ℕ) → HasOneEnd (ExportReply files name)
ExportReply-one files name = Then-one (TableStep files name) (ExportOf files) (TableStep-one files name) (ExportOf-one files)

-- there is one such value
pub There-one : {A E : Type 0} (holds : A → Type 0) → ((a b : A) → holds a → holds b → a ≡ b) → HasOneEnd {A = A} {E = E} (There holds)
There-one holds one (Ok a) (Ok b) p q = ap Ok (one a b p q)
There-one holds one (Ok a) (Err e) p q = absurd q
There-one holds one (Err e) end p q = absurd p

-- one format is what the schema says
least_format : (column other : Shape) → column.values ≡ other.values → IsLeast column.values (format_of column.format) → IsLeast other.values (format_of other.format) → column.format ≡ other.format
least_format column other same is be =
    let one = one_least column.values in
    let first = one.2 (format_of column.format) is in
    let second = one.2 (format_of other.format) (subst (λ (values : List ℕ). IsLeast values (format_of other.format)) (sym same) be) in
    format_of-one column.format other.format (first ∙ sym second)

same_format : (choice : FormatChoice) (column other : Shape) → column.values ≡ other.values → IsInFormat choice column → IsInFormat choice other → column.format ≡ other.format
same_format (Fixed format) column other same is be = is ∙ sym be
same_format Auto column other same is be = least_format column other same is be

one_stored : (definition : ColumnDef) (source : Data) (stored other : Stored) → IsStoredAs definition source stored → IsStoredAs definition source other → stored ≡ other
one_stored definition source stored other is be =
    let values = is.values ∙ sym be.values in
    let texts = is.texts ∙ sym be.texts in
    let format = same_format definition.format stored.column other.column values is.format be.format in
    let column : stored.column ≡ other.column = ap₂ shape format values in
    ap₂ (λ (c : Shape) (t : Option (List Text)). record { column = c; texts = t }) column texts

pub one_storing : (definitions : List ColumnDef) (sources : List Data) (columns other : List Stored) → AreStoredAs definitions sources columns → AreStoredAs definitions sources other → columns ≡ other
one_storing [] [] [] [] are be = refl
one_storing [] [] [] (b ∷ others) are be = absurd be
one_storing [] [] (a ∷ columns) other are be = absurd are
one_storing [] (d ∷ sources) columns other are be = absurd are
one_storing (f ∷ definitions) [] columns other are be = absurd are
one_storing (f ∷ definitions) (d ∷ sources) [] other are be = absurd are
one_storing (f ∷ definitions) (d ∷ sources) (a ∷ columns) [] are be = absurd be
one_storing (f ∷ definitions) (d ∷ sources) (a ∷ columns) (b ∷ others) are be =
    ap₂ (λ (first : Stored) (rest : List Stored). first ∷ rest) (one_stored f d a b are.0 be.0) (one_storing definitions sources columns others are.1 be.1)

one_answer : (files : Files) (ready : Ready) (answer other : Answer) → IsSaved files ready answer → IsSaved files ready other → answer ≡ other
one_answer files ready answer other (text, saved, are, is) (also, all, be, same) =
    let slot = slot_to_write files ready.table.name in
    let one : saved ≡ all = one_data ready.table.name slot ready.table.columns ready.columns saved all are be in
    let left : answer.files ≡ other.files = is ∙ ap (λ (list : List File). written files ready.table list (row_count ready.columns)) one ∙ sym same in
    let says : answer.text ≡ other.text = text ∙ sym also in
    ap₂ (λ (t : List ℕ) (f : Files). record { text = t; files = f }) says left

pub SavedAnswer-one : (files : Files) (ready : Ready) → HasOneEnd (SavedAnswer files ready)
SavedAnswer-one files ready = There-one (IsSaved files ready) (one_answer files ready)

-- what is ready is its table, its columns and its line
pub one_of_parts : (ready other : Ready) → ready.table ≡ other.table → ready.columns ≡ other.columns → ready.line ≡ other.line → ready ≡ other
one_of_parts ready other table columns line =
    ap₂ (λ (t : TableDef) (c : List Stored). record { table = t; columns = c; line = ready.line }) table columns
    ∙ ap (λ (l : List ℕ). record { table = other.table; columns = other.columns; line = l }) line

one_reformat : (found : Found) (tables : List TableState) (ready other : Ready) → IsReformat found tables ready → IsReformat found tables other → ready ≡ other
one_reformat found tables ready other (table, are, line) (also, be, same) =
    let columns : ready.columns ≡ other.columns = one_storing (definition_of found).columns (held_in tables found.table) ready.columns other.columns are be in
    let lines : ready.line ≡ other.line = line ∙ ap (λ (c : List Stored). reformatted_line (definition_of found) (row_count c)) columns ∙ sym same in
    one_of_parts ready other (table ∙ sym also) columns lines

ReadyReformat-one : (files : Files) (name : List ℕ) → HasOneEnd (ReadyReformat files name)
ReadyReformat-one files name =
    Then-one (TableStep files name) (ReformatOf files) (TableStep-one files name)
    (λ found. Then-one (WholeTable files found) (λ tables. There (IsReformat found tables)) (WholeTable-one files found) (λ tables. There-one (IsReformat found tables) (one_reformat found tables)))

pub ReformatReply-one : (files : Files) (name : List ℕ) → HasOneEnd (ReformatReply files name)
ReformatReply-one files name = Then-one (ReadyReformat files name) (SavedAnswer files) (ReadyReformat-one files name) (SavedAnswer-one files)
