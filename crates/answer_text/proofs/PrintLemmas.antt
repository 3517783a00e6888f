-- Records one after the other, and the columns of a table.
use Rattle.std.proofs.Common.{◌≡◌, ◌∙◌, ◌+◌, ℕ, List, [], ◌∷◌, ◌++◌, true, Option, Some, refl, sym, ap, ap₂, subst, map, flat_map, unwrap_or, slice_get, add-one, arith}
use Rattle.std.specs.List.{range_with_len}
use Rattle.std.proofs.lemmas.List.{append_assoc, append-nil}
use Rattle.std.proofs.lemmas.Grind.{flat_map-append}
use Rattle.csv.specs.Writing.{row_text}
use Rattle.catalog_core.specs.declared.schemas.ColumnDef.{ColumnDef}
use Rattle.catalog_core.specs.declared.schemas.TableDef.{TableDef}
use Rattle.catalog_core.specs.declared.schemas.Schema.{Schema}
use Rattle.catalog_core.proofs.ColumnLemmas.{range_more}
use Rattle.table_core.specs.Tables.{Stored, TableState, rows_of}
use Rattle.answer_text.specs.declared.records.Records.{Records}
use Rattle.answer_text.specs.HeldColumns.{columns_at}
use Rattle.answer_text.specs.Exports.{columns_there, row_fields, export_setup, header_text, export_text}
use Rattle.answer_text.specs.Records.{setup_of, HasWritten, AddsFields, AddsText, EndsRecord}
use Rattle.answer_text.specs.Printed.{Printed, printed_of, printed_fields, printed_field, names_by, header_by, row_by, rows_by}

-- a record whose fields were written is ended
pub record_after : (old mid new : Records) (fields : List (List ℕ)) → AddsFields fields old mid → EndsRecord mid new → AddsText (λ separator. row_text (setup_of separator) fields) old new
record_after old mid new fields one ended = λ separator text was. ended separator text fields (one separator text [] was)

text_after : (old mid new : Records) (first second : ℕ → List ℕ) → AddsText first old mid → AddsText second mid new → AddsText (λ separator. first separator ++ second separator) old new
text_after old mid new first second one two = λ separator text was.
    subst (λ (all : List ℕ). HasWritten separator all [] new) (append_assoc text (first separator) (second separator)) (two separator (text ++ first separator) (one separator text was))

pub fields-printed : (columns : List Stored) (row : ℕ) → row_fields columns row ≡ printed_fields row (map printed_of columns)
fields-printed [] row = refl
fields-printed (stored ∷ columns) row = ap (λ rest. printed_field row (printed_of stored) ∷ rest) (fields-printed columns row)

-- one row more

rows-more : (columns : List Printed) (rows separator : ℕ) → rows_by columns rows separator ++ row_by columns rows separator ≡ rows_by columns (rows + 1) separator
rows-more columns rows separator =
    let row = λ (row : ℕ). row_by columns row separator in
    let last : 0 + rows ≡ rows = omega arith in
    let all : range_with_len 0 (rows + 1) ≡ range_with_len 0 rows ++ rows ∷ [] =
    ap (range_with_len 0) (add-one rows) ∙ range_more 0 rows ∙ ap (λ (number : ℕ). range_with_len 0 rows ++ number ∷ []) last in
    ap (λ (text : List ℕ). flat_map row (range_with_len 0 rows) ++ text) (sym (append-nil (row rows)))
    ∙ sym (ap (flat_map row) all ∙ flat_map-append row (range_with_len 0 rows) (rows ∷ []))

pub row_after : (old mid new : Records) (columns : List Printed) (row : ℕ) → AddsText (rows_by columns row) old mid → AddsText (row_by columns row) mid new → AddsText (rows_by columns (row + 1)) old new
row_after old mid new columns row so_far more = λ separator text was.
    subst (λ (all : List ℕ). HasWritten separator (text ++ all) [] new) (rows-more columns row separator)
    (text_after old mid new (rows_by columns row) (row_by columns row) so_far more separator text was)

-- the names of the columns are the header, if there is one
pub names_are_header : (definition : TableDef) (columns : List ColumnDef) (old new : Records) → definition.header ≡ true → columns ≡ definition.columns
    → AddsText (names_by columns) old new → AddsText (header_by definition) old new
names_are_header definition columns old new header same named = λ separator text was.
    let all : names_by columns separator ≡ header_by definition separator = rw (header, same) refl in
    subst (λ (all : List ℕ). HasWritten separator (text ++ all) [] new) all (named separator text was)

-- the text of a table

rows-printed : (definition : TableDef) (columns : List Stored) (rows : List ℕ)
    → flat_map (λ row. row_by (map printed_of columns) row definition.separator) rows ≡ flat_map (λ row. row_text (export_setup definition) (row_fields columns row)) rows
rows-printed definition columns [] = refl
rows-printed definition columns (row ∷ rows) =
    ap₂ (λ (first rest : List ℕ). first ++ rest) (ap (row_text (export_setup definition)) (sym (fields-printed columns row))) (rows-printed definition columns rows)

-- what is written for a table
abbrev pub written_for : TableDef → List TableState → ℕ → List ℕ
written_for definition tables table =
    header_by definition definition.separator ++ rows_by (map printed_of (columns_there (columns_at tables table))) (unwrap_or (rows_of tables table) 0) definition.separator

pub whole_export : (schema : Schema) (tables : List TableState) (table : ℕ) (definition : TableDef) (state : TableState)
    → slice_get schema.tables table ≡ Some definition → slice_get tables table ≡ Some state → written_for definition tables table ≡ export_text schema table tables
whole_export schema tables table definition state is held =
    rw (is, held) (ap (λ (rows : List ℕ). header_text definition ++ rows) (rows-printed definition (columns_there state.columns) (range_with_len 0 (unwrap_or state.rows 0))))
