-- Files are opened in one way at most.
use Rattle.std.proofs.Common.{◌≡◌, ℕ, Bool, true, false, List, [], Option, Some, None, Ok, sym, ap₂, ◌∙◌}
use Rattle.std.specs.Prelude.{nat_eq, unwrap_or}
use Rattle.std.specs.List.{IsDistinct}
use Rattle.definitions_columns.specs.FileFaults.{HasFileFault}
use Rattle.definitions_columns.proofs.FaultLaws.{one_fault, no_fault}
use Rattle.definitions_columns.proofs.FileLaws as laws
use Rattle.definitions_outcomes.specs.Outcomes.{Gives, OneOrFault, Then, Each, HasOneEnd}
use Rattle.definitions_outcomes.proofs.OutcomeLaws.{Gives-one, OneOr-one, OneOrFault-one, Then-one, Each-one}
use Rattle.stream_core.specs.Files.{Files}
use Rattle.stream_core.specs.Names.{column_file_name, dictionary_file_name}
use Rattle.block_core.specs.Formats.{format_of}
use Rattle.column_core.specs.Columns.{Shape, shape}
use Rattle.column_core.proofs.HeadLemmas.{format_of-one}
use Rattle.catalog_core.specs.Columns.{table_at, column_at, columns_of_table}
use Rattle.catalog_core.specs.Dictionaries.{IsDictionaryFile, HasDictionaryFault}
use Rattle.catalog_core.proofs.DictionaryLaws as dictionaries
use Rattle.catalog_core.specs.declared.columns.ColumnId.{ColumnId}
use Rattle.catalog_core.specs.declared.columns.Needs.{Needs}
use Rattle.catalog_core.specs.declared.schemas.Kind.{Kind}
use Rattle.catalog_core.specs.declared.schemas.Kind.TheVariants as kind
use Rattle.catalog_core.specs.declared.schemas.ColumnDef.{ColumnDef}
use Rattle.catalog_core.specs.declared.schemas.TableDef.{TableDef}
use Rattle.catalog_core.specs.declared.schemas.Schema.{Schema}
use Rattle.table_core.specs.Tables.{TableState, nothing_yet, started, placed, key_values}
use Rattle.table_core.specs.Held.{is_key_needed}
use Rattle.database_core.specs.NowFiles.{Now}
use Rattle.database_core.specs.Opening.{OneOpening, HoldsColumn, ColumnOf, TextsOf, WithTexts, StoredOf, OneMore, ColumnStep, KeyStep, OneTable, TableStep, data_file, now_of, for_rows, with_codes, error_of}
use Rattle.database_core.specs.declared.errors.OpenError.TheVariants as error

-- a file is one column's
pub one_held : (bytes : List ℕ) (held other : Shape) → HoldsColumn bytes held → HoldsColumn bytes other → held ≡ other
one_held bytes held other is be =
    let same = laws.one_column is.0 be.0 (format_of held.format) (format_of other.format) held.values other.values bytes is.1 be.1 in
    ap₂ shape (format_of-one held.format other.format same.1) same.2

ColumnOf-one : (files : Files) (file : List ℕ) (rows : ℕ) → HasOneEnd (ColumnOf files file rows)
ColumnOf-one files file rows =
    Then-one (Gives (data_file files file))
    (λ bytes. Then (OneOrFault (HoldsColumn bytes) (HasFileFault bytes) (λ found. error.Column file (error_of found))) (λ held. Gives (for_rows file rows held)))
    (Gives-one (data_file files file))
    (λ bytes. Then-one (OneOrFault (HoldsColumn bytes) (HasFileFault bytes) (λ found. error.Column file (error_of found))) (λ held. Gives (for_rows file rows held))
    (OneOrFault-one (HoldsColumn bytes) (HasFileFault bytes) (λ found. error.Column file (error_of found)) (one_held bytes) (one_fault bytes)
    (λ held found is has. no_fault is.0 (format_of held.format) held.values bytes found is.1 has))
    (λ held. Gives-one (for_rows file rows held)))

TextsOf-one : (files : Files) (file : List ℕ) → HasOneEnd (TextsOf files file)
TextsOf-one files file =
    Then-one (Gives (data_file files file)) (λ bytes. OneOrFault (λ texts. IsDictionaryFile texts bytes) (HasDictionaryFault bytes) (λ found. error.Dict file found))
    (Gives-one (data_file files file))
    (λ bytes. OneOrFault-one (λ texts. IsDictionaryFile texts bytes) (HasDictionaryFault bytes) (λ found. error.Dict file found)
    (λ texts others is be. dictionaries.one_dictionary texts others bytes is be) (dictionaries.one_fault bytes) (λ texts found is has. dictionaries.no_fault texts bytes found is has))

WithTexts-one : (files : Files) (file dictionary : List ℕ) (kind : Kind) (held : Shape) → HasOneEnd (WithTexts files file dictionary kind held)
WithTexts-one files file dictionary kind.Number held = Gives-one (Ok (record { column = held; texts = None }))
WithTexts-one files file dictionary kind.Text held =
    Then-one (TextsOf files dictionary) (λ texts. Gives (with_codes file held texts)) (TextsOf-one files dictionary) (λ texts. Gives-one (with_codes file held texts))

StoredOf-one : (files : Files) (table : List ℕ) (now : Now) (definition : ColumnDef) → HasOneEnd (StoredOf files table now definition)
StoredOf-one files table now definition =
    let file = column_file_name table now.slot definition.name in
    let dictionary = dictionary_file_name table now.slot definition.name in
    Then-one (ColumnOf files file now.rows) (λ held. WithTexts files file dictionary definition.kind held) (ColumnOf-one files file now.rows)
    (λ held. WithTexts-one files file dictionary definition.kind held)

OneMore-one : (files : Files) (table : List ℕ) (now : Now) (tables : List TableState) (id : ColumnId) (found : Option ColumnDef) → HasOneEnd (OneMore files table now tables id found)
OneMore-one files table now tables id None = Gives-one (Ok tables)
OneMore-one files table now tables id (Some definition) =
    Then-one (StoredOf files table now definition) (λ stored. Gives (Ok (placed tables id stored))) (StoredOf-one files table now definition) (λ stored. Gives-one (Ok (placed tables id stored)))

KeyStep-one : (needed : Bool) (table : ℕ) (tables : List TableState) → HasOneEnd (KeyStep needed table tables)
KeyStep-one true table tables =
    OneOr-one (λ (held : List TableState). (held ≡ tables) × IsDistinct nat_eq (unwrap_or (key_values tables table) [])) (error.RepeatedKey table) (λ held other is be. is.0 ∙ sym be.0)
KeyStep-one false table tables = Gives-one (Ok tables)

OneTable-one : (files : Files) (schema : Schema) (needs : Needs) (tables : List TableState) (table : ℕ) (found : Option TableDef) → HasOneEnd (OneTable files schema needs tables table found)
OneTable-one files schema needs tables table None = Gives-one (Ok tables)
OneTable-one files schema needs tables table (Some definition) =
    let needed = is_key_needed definition needs table in
    Then-one (Gives (now_of files table definition.name))
    (λ now. Then (Each (ColumnStep files schema definition.name now) (started tables table now.rows) (columns_of_table needs table)) (λ filled. KeyStep needed table filled))
    (Gives-one (now_of files table definition.name))
    (λ now. Then-one (Each (ColumnStep files schema definition.name now) (started tables table now.rows) (columns_of_table needs table)) (λ filled. KeyStep needed table filled)
    (Each-one (ColumnStep files schema definition.name now) (λ held id. OneMore-one files definition.name now held id (column_at schema id)) (started tables table now.rows) (columns_of_table needs table))
    (λ filled. KeyStep-one needed table filled))

pub one_opening : OneOpening
one_opening files schema needs =
    Each-one (TableStep files schema needs) (λ tables table. OneTable-one files schema needs tables table (table_at schema table)) (nothing_yet schema) needs.tables
