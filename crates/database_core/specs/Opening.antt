-- The data of a database's files that are needed, or the first refusal.
use Rattle.std.specs.Prelude.{◌≡◌, ℕ, Bool, true, false, ◌==◌, nat_le, nat_eq, List, [], length, Option, Some, None, Result, Ok, Err, ok_or, unwrap_or, if◌then◌else◌}
use Rattle.std.specs.List.{IsDistinct}
use Rattle.definitions_columns.specs.ColumnFiles.{Version, IsFileOf}
use Rattle.definitions_columns.specs.FileFaults.{FileFault, HasFileFault}
use Rattle.definitions_columns.specs.FileFaults as fault
use Rattle.definitions_outcomes.specs.Computed.{bind}
use Rattle.definitions_outcomes.specs.Outcomes.{Outcomes, Gives, OneOr, OneOrFault, Then, Each}
use Rattle.stream_core.specs.Files.{Files}
use Rattle.stream_core.specs.Names.{now_file_name, column_file_name, dictionary_file_name}
use Rattle.block_core.specs.Formats.{format_of}
use Rattle.column_core.specs.Columns.{Shape}
use Rattle.column_file.specs.declared.errors.ColumnError.{ColumnError}
use Rattle.column_file.specs.declared.errors.ColumnError.TheVariants as column
use Rattle.catalog_core.specs.Columns.{table_at, column_at, columns_of_table}
use Rattle.catalog_core.specs.Texts.{Text}
use Rattle.catalog_core.specs.Dictionaries.{IsDictionaryFile, HasDictionaryFault}
use Rattle.catalog_core.specs.declared.columns.ColumnId.{ColumnId}
use Rattle.catalog_core.specs.declared.columns.Needs.{Needs}
use Rattle.catalog_core.specs.declared.schemas.Kind.{Kind}
use Rattle.catalog_core.specs.declared.schemas.Kind.TheVariants as kind
use Rattle.catalog_core.specs.declared.schemas.ColumnDef.{ColumnDef}
use Rattle.catalog_core.specs.declared.schemas.TableDef.{TableDef}
use Rattle.catalog_core.specs.declared.schemas.Schema.{Schema}
use Rattle.table_core.specs.Tables.{Stored, TableState, nothing_yet, started, placed, key_values, are_codes}
use Rattle.table_core.specs.Held.{is_key_needed}
use Rattle.database_core.specs.NowFiles.{Now, now_in}
use Rattle.database_core.specs.declared.errors.OpenError.{OpenError}
use Rattle.database_core.specs.declared.errors.OpenError.TheVariants as error

-- how many bytes are read of a column file and of a dictionary file at most
abbrev pub max_data_file : ℕ
max_data_file = 4294967296

-- the bytes of a file, and of one that is not too long
abbrev pub file_in : Files → List ℕ → Result (List ℕ) OpenError
file_in files file = ok_or (files file) (error.NoFile file)

abbrev pub limited : List ℕ → List ℕ → Result (List ℕ) OpenError
limited file bytes = if nat_le (length bytes) max_data_file then Ok bytes else Err (error.TooLong file)

abbrev pub data_file : Files → List ℕ → Result (List ℕ) OpenError
data_file files file = bind (file_in files file) (limited file)

-- where a table's rows stand
abbrev pub now_of : Files → ℕ → List ℕ → Result Now OpenError
now_of files table name = bind (file_in files (now_file_name name)) (λ bytes. ok_or (now_in bytes) (error.BadNow table))

-- the bytes are the file of this column in some version
abbrev pub HoldsColumn : List ℕ → Shape → Type 0
HoldsColumn bytes held = (version : Version) × IsFileOf version (format_of held.format) held.values bytes

-- the error that names a fault of a column file
abbrev pub error_of : FileFault → ColumnError
error_of fault.bad_header = column.BadHeader
error_of (fault.bad_directory block) = column.BadDirectory block
error_of (fault.bad_block block) = column.BadBlock block
error_of fault.bad_width = column.BadWidth
error_of fault.bad_tail = column.BadTail

-- one value for each row
abbrev pub for_rows : List ℕ → ℕ → Shape → Result Shape OpenError
for_rows file rows held = if length held.values == rows then Ok held else Err (error.Length file)

-- the column of a file, with a value for each row
abbrev pub ColumnOf : Files → List ℕ → ℕ → Outcomes Shape OpenError
ColumnOf files file rows =
    Then (Gives (data_file files file)) (λ bytes.
    Then (OneOrFault (HoldsColumn bytes) (HasFileFault bytes) (λ found. error.Column file (error_of found))) (λ held.
    Gives (for_rows file rows held)))

-- the texts of a dictionary file
abbrev pub TextsOf : Files → List ℕ → Outcomes (List Text) OpenError
TextsOf files file =
    Then (Gives (data_file files file)) (λ bytes.
    OneOrFault (λ texts. IsDictionaryFile texts bytes) (HasDictionaryFault bytes) (λ found. error.Dict file found))

-- only codes of the texts
abbrev pub with_codes : List ℕ → Shape → List Text → Result Stored OpenError
with_codes file held texts =
    if are_codes (Some texts) held.values then Ok (record { column = held; texts = Some texts }) else Err (error.BadCode file)

-- the texts of a column, if its kind has such
abbrev pub WithTexts : Files → List ℕ → List ℕ → Kind → Shape → Outcomes Stored OpenError
WithTexts files file dictionary kind.Number held = Gives (Ok (record { column = held; texts = None }))
WithTexts files file dictionary kind.Text held = Then (TextsOf files dictionary) (λ texts. Gives (with_codes file held texts))

-- a column of a table in a slot
abbrev pub StoredOf : Files → List ℕ → Now → ColumnDef → Outcomes Stored OpenError
StoredOf files table now definition =
    Then (ColumnOf files (column_file_name table now.slot definition.name) now.rows) (λ held.
    WithTexts files (column_file_name table now.slot definition.name) (dictionary_file_name table now.slot definition.name) definition.kind held)

-- one more column of a table
abbrev pub OneMore : Files → List ℕ → Now → List TableState → ColumnId → Option ColumnDef → Outcomes (List TableState) OpenError
OneMore files table now tables id None = Gives (Ok tables)
OneMore files table now tables id (Some definition) = Then (StoredOf files table now definition) (λ stored. Gives (Ok (placed tables id stored)))

abbrev pub ColumnStep : Files → Schema → List ℕ → Now → List TableState → ColumnId → Outcomes (List TableState) OpenError
ColumnStep files schema table now tables id = OneMore files table now tables id (column_at schema id)

-- no two rows of one key, if that is asked
abbrev pub KeyStep : Bool → ℕ → List TableState → Outcomes (List TableState) OpenError
KeyStep true table tables = OneOr (λ held. (held ≡ tables) × IsDistinct nat_eq (unwrap_or (key_values tables table) [])) (error.RepeatedKey table)
KeyStep false table tables = Gives (Ok tables)

-- a table: its now file, its needed columns in order, and its key
abbrev pub OneTable : Files → Schema → Needs → List TableState → ℕ → Option TableDef → Outcomes (List TableState) OpenError
OneTable files schema needs tables table None = Gives (Ok tables)
OneTable files schema needs tables table (Some definition) =
    Then (Gives (now_of files table definition.name)) (λ now.
    Then (Each (ColumnStep files schema definition.name now) (started tables table now.rows) (columns_of_table needs table)) (λ filled.
    KeyStep (is_key_needed definition needs table) table filled))

abbrev pub TableStep : Files → Schema → Needs → List TableState → ℕ → Outcomes (List TableState) OpenError
TableStep files schema needs tables table = OneTable files schema needs tables table (table_at schema table)

-- The needed data of a database's files, table after table, or the first refusal.
abbrev pub Opened : Files → Schema → Needs → Outcomes (List TableState) OpenError
Opened files schema needs = Each (TableStep files schema needs) (nothing_yet schema) needs.tables

-- files are opened in one way at most
abbrev pub OneOpening : Type 0
OneOpening = (files : Files) (schema : Schema) (needs : Needs) (end other : Result (List TableState) OpenError) → Opened files schema needs end → Opened files schema needs other → end ≡ other
