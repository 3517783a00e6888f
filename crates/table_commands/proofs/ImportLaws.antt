-- Something is said of each refusal of a text: no text is answered with want of memory.
use Rattle.std.proofs.Common.{ℕ, ◌+◌, Bool, true, false, List, [], ◌∷◌, ◌++◌, length, map, Result, Ok, Err, refl}
use Rattle.std.specs.Prelude.{nat_le, nat_lt, IsSome, if◌then◌else◌}
use Rattle.std.specs.List.{zip}
use Rattle.std.specs.Str.{is_utf8}
use Rattle.std.specs.Str.Parse.{digits_value}
use Rattle.definitions_blocks.specs.Columns.{max_rows}
use Rattle.definitions_outcomes.specs.Computed.{walk}
use Rattle.catalog_core.specs.Texts.{max_text}
use Rattle.catalog_core.specs.declared.schemas.Kind.{Kind}
use Rattle.catalog_core.specs.declared.schemas.Kind.TheVariants as kind
use Rattle.catalog_core.specs.declared.schemas.TableDef.{TableDef}
use Rattle.table_import.specs.Imports.{Value, number, text, Row, is_number, value_in, value_of, has_count, row_of, is_repeated, row_after}
use Rattle.table_import.specs.Records.{Record, records_in, without_header}
use Rattle.table_import.specs.Steps.{walk_after}
use Rattle.table_import.specs.declared.errors.ImportError.{ImportError}
use Rattle.table_import.specs.declared.errors.ImportError.TheVariants as error
use Rattle.table_commands.specs.Importing.{import_text, ImportRefusalsAreSaid}
use Rattle.table_commands.proofs.CheckLaws.{Refuses, ok_refuses, err_refuses, if_refuses, bind_refuses, walk_refuses}

-- each refusal of either step has the property, and so of the one that is chosen
pub choice_refuses : {A E : Type 0} (P : E → Type 0) (test : Bool) (one other : Result A E) → Refuses P one → Refuses P other → Refuses P (if test then one else other)
choice_refuses P true one other first second = first
choice_refuses P false one other first second = second

walk_after_refuses : {A B E : Type 0} (P : E → Type 0) (step : ℕ → List B → A → Result B E) (from : ℕ) (done : List B) (items : List A)
    → ((n : ℕ) (before : List B) (item : A) → Refuses P (step n before item)) → Refuses P (walk_after step from done items)
walk_after_refuses P step from done [] each = ok_refuses P done
walk_after_refuses P step from done (item ∷ rest) each =
    bind_refuses P (step from done item) (λ one. walk_after step (from + 1) (done ++ one ∷ []) rest) (each from done item)
    (λ one. walk_after_refuses P step (from + 1) (done ++ one ∷ []) rest each)

abbrev SaidOfImport : ImportError → Type 0
SaidOfImport given = IsSome (import_text given)

-- a field
field_said : (row place : ℕ) (given : Kind) (field : List ℕ) → Refuses SaidOfImport (value_in given row place field)
field_said row place kind.Number field = if_refuses SaidOfImport (is_number field) (number (digits_value 10 field)) (error.BadNumber row place) refl
field_said row place kind.Text field =
    choice_refuses SaidOfImport (is_utf8 field) (if nat_le (length field) max_text then Ok (text field) else Err (error.TextTooLong row place)) (Err (error.BadText row place))
    (if_refuses SaidOfImport (nat_le (length field) max_text) (text field) (error.TextTooLong row place) refl)
    (err_refuses SaidOfImport {A = Value} (error.BadText row place) refl)

-- a row
row_said : (table : TableDef) (row : ℕ) (fields : Record) → Refuses SaidOfImport (row_of table row fields)
row_said table row fields =
    let items = zip (map (λ column. column.kind) table.columns) fields in
    choice_refuses SaidOfImport (has_count table fields) (walk (value_of row) 1 items) (Err (error.FieldCount row (length fields)))
    (walk_refuses SaidOfImport (value_of row) 1 items (λ place item. field_said row place item.0 item.1))
    (err_refuses SaidOfImport {A = Row} (error.FieldCount row (length fields)) refl)

row_after_said : (table : TableDef) (row : ℕ) (done : List Row) (fields : Record) → Refuses SaidOfImport (row_after table max_rows [] row done fields)
row_after_said table row done fields =
    bind_refuses SaidOfImport (if nat_lt max_rows row then Err error.TooManyRows else row_of table row fields)
    (λ values. if is_repeated table [] done values then Err (error.RepeatedKey row) else Ok values)
    (choice_refuses SaidOfImport (nat_lt max_rows row) (Err error.TooManyRows) (row_of table row fields)
    (err_refuses SaidOfImport {A = Row} error.TooManyRows refl) (row_said table row fields))
    (λ values. choice_refuses SaidOfImport (is_repeated table [] done values) (Err (error.RepeatedKey row)) (Ok values)
    (err_refuses SaidOfImport {A = Row} (error.RepeatedKey row) refl) (ok_refuses SaidOfImport values))

-- something is said of each refusal of a text
pub said_of_import : ImportRefusalsAreSaid
said_of_import table bytes =
    walk_after_refuses SaidOfImport (row_after table max_rows []) 1 [] (without_header table.header (records_in table.separator bytes)) (row_after_said table)
