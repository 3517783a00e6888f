-- The rows of a CSV text for a table, or the first refusal, over the records that csv reads.
use Rattle.std.specs.Prelude.{ℕ, ◌+◌, ◌^◌, Bool, false, ◌&&◌, ◌||◌, ◌==◌, nat_eq, nat_lt, nat_le, if◌then◌else◌, List, [], ◌++◌, map, length, Option, Some, None, Result, Ok, Err, slice_get, slice_index_or}
use Rattle.std.specs.List.{list_all, list_any, zip}
use Rattle.std.specs.Option.{option_map_or}
use Rattle.std.specs.Char.{is_ascii_digit}
use Rattle.std.specs.Str.{is_utf8}
use Rattle.std.specs.Str.Parse.{digits_value}
use Rattle.definitions_outcomes.specs.Computed.{bind, walk}
use Rattle.catalog_core.specs.Texts.{Text, max_text}
use Rattle.catalog_core.specs.declared.schemas.Kind.{Kind}
use Rattle.catalog_core.specs.declared.schemas.Kind.TheVariants as kind
use Rattle.catalog_core.specs.declared.schemas.TableDef.{TableDef}
use Rattle.table_import.specs.Steps.{walk_after}
use Rattle.table_import.specs.Records.{Record, records_in, without_header}
use Rattle.table_import.specs.declared.errors.ImportError.{ImportError}
use Rattle.table_import.specs.declared.errors.ImportError.TheVariants as refusal

-- ---- a field

-- what a field gives
pub data Value : Type 0 where
  number : ℕ → Value
  text : Text → Value

-- a row is its values
abbrev pub Row : Type 0
Row = List Value

-- one or more digits, with a value below 2^64
abbrev pub is_number : List ℕ → Bool
is_number field = list_all is_ascii_digit field && nat_lt 0 (length field) && nat_lt (digits_value 10 field) (2 ^ 64)

-- the value of a field of a number column and of a text column, by its row and its place in it, both from 1
abbrev pub number_of : ℕ → ℕ → List ℕ → Result Value ImportError
number_of row place field = if is_number field then Ok (number (digits_value 10 field)) else Err (refusal.BadNumber row place)

abbrev pub text_of : ℕ → ℕ → List ℕ → Result Value ImportError
text_of row place field =
    if is_utf8 field
    then (if nat_le (length field) max_text then Ok (text field) else Err (refusal.TextTooLong row place))
    else Err (refusal.BadText row place)

-- the value of a field of a column of this kind
abbrev pub value_in : Kind → ℕ → ℕ → List ℕ → Result Value ImportError
value_in kind.Number row place field = number_of row place field
value_in kind.Text row place field = text_of row place field

-- the same of a field beside the kind of its column
abbrev pub value_of : ℕ → ℕ → Kind × List ℕ → Result Value ImportError
value_of row place item = value_in item.0 row place item.1

-- ---- a row

-- as many fields as columns; if `trailing` holds, also one more that is empty
abbrev pub counts : ℕ → Bool → Record → Bool
counts columns trailing fields =
    (length fields == columns)
    || (trailing && (length fields == columns + 1) && option_map_or (λ last. length last == 0) (slice_get fields columns) false)

-- the same for the columns of a table
abbrev pub has_count : TableDef → Record → Bool
has_count table fields = counts (length table.columns) table.trailing fields

-- the values of a row, or its first refusal; a trailing empty field has no column and gives none
abbrev pub row_of : TableDef → ℕ → Record → Result Row ImportError
row_of table row fields =
    if has_count table fields
    then walk (value_of row) 1 (zip (map (λ column. column.kind) table.columns) fields)
    else Err (refusal.FieldCount row (length fields))

-- the place of the key, if the table has one whose values must differ
abbrev pub key_place : TableDef → Option ℕ
key_place table = if table.repeats then None else table.key

-- the number of a value
abbrev pub number_in : Value → ℕ
number_in (number value) = value
number_in (text value) = 0

-- the number of a row at a place
abbrev pub number_at : ℕ → Row → ℕ
number_at place row = number_in (slice_index_or row place (number 0))

-- the numbers of the rows at a place
abbrev pub keys_at : ℕ → List Row → List ℕ
keys_at place rows = map (λ row. number_at place row) rows

-- whether a row's number at the key's place is a known key, or that of an earlier row
abbrev pub repeats_at : Option ℕ → List ℕ → List Row → Row → Bool
repeats_at None known done row = false
repeats_at (Some place) known done row = list_any (nat_eq (number_at place row)) (known ++ keys_at place done)

-- the same at the place of a table's key
abbrev pub is_repeated : TableDef → List ℕ → List Row → Row → Bool
is_repeated table known done row = repeats_at (key_place table) known done row

-- ---- all rows

-- a row that is lawful after the rows before it: `known` are keys that stand already, none for an import
abbrev pub row_after : TableDef → ℕ → List ℕ → ℕ → List Row → Record → Result Row ImportError
row_after table limit known row done fields =
    bind (if nat_lt limit row then Err refusal.TooManyRows else row_of table row fields) (λ values.
    if is_repeated table known done values then Err (refusal.RepeatedKey row) else Ok values)

-- the rows of a text
abbrev pub imported : TableDef → ℕ → List ℕ → List ℕ → Result (List Row) ImportError
imported table limit known bytes =
    walk_after (row_after table limit known) 1 [] (without_header table.header (records_in table.separator bytes))
