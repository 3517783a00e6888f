-- Columns that grow by a row at a time, as contracts see them.
use Rattle.std.specs.Prelude.{◌≡◌, ℕ, ◌-◌, ◌<◌, ◌≤◌, Bool, false, ◌||◌, nat_eq, List, [], ◌∷◌, ◌++◌, map, length, Option, Some, None, Result, Ok, slice_get, slice_index_or}
use Rattle.std.specs.List.{list_any, AllByRecursion}
use Rattle.catalog_core.specs.Texts.{IsText}
use Rattle.catalog_core.specs.declared.schemas.Kind.{Kind}
use Rattle.catalog_core.specs.declared.schemas.Kind.TheVariants as kind
use Rattle.catalog_core.specs.declared.schemas.ColumnDef.{ColumnDef}
use Rattle.catalog_core.specs.declared.schemas.TableDef.{TableDef}
use Rattle.table_import.specs.Imports.{Value, number, text, Row, number_in, keys_at, value_in, key_place}
use Rattle.table_import.specs.TableData.{values_at, HoldsValues, IsColumnOf}
use Rattle.table_import.specs.declared.errors.ImportError.{ImportError}
use Rattle.table_import.specs.declared.tables.ColumnValues.{ColumnValues}
use Rattle.table_import.specs.declared.columns.GrowingColumn.{GrowingColumn}
use Rattle.table_import.specs.declared.columns.GrowingColumn.TheVariants as column

-- the kind of a column, and its values so far
abbrev pub kind_of : GrowingColumn → Kind
kind_of (column.Numbers values) = kind.Number
kind_of (column.Texts encoder) = kind.Text

abbrev pub values_of : GrowingColumn → List Value
values_of (column.Numbers values) = map (λ value. number value) values.items
values_of (column.Texts encoder) = map (λ one. text one) encoder

-- a value that a dictionary can have, if it is a text
abbrev pub IsLawful : Value → Type 0
IsLawful (number value) = Unit {0}
IsLawful (text one) = IsText one

-- a column with the value of one more field
pub record Takes (row place : ℕ) (field : List ℕ) (before after : GrowingColumn) : Type 0 where
  pub value : Value
  pub gives : value_in (kind_of before) row place field ≡ Ok value
  pub values : values_of after ≡ values_of before ++ value ∷ []
  pub kind : kind_of after ≡ kind_of before

-- what stands in the columns at a place
abbrev pub column_at : List GrowingColumn → ℕ → List Value
column_at columns place = slice_index_or (map values_of columns) place []

-- columns with one more row, which this gives
pub record TakesRow (given : Result Row ImportError) (before after : List GrowingColumn) : Type 0 where
  pub values : Row
  pub gives : given ≡ Ok values
  pub each : (place : ℕ) → place < length before → column_at after place ≡ column_at before place ++ slice_index_or values place (number 0) ∷ []
  pub kinds : map kind_of after ≡ map kind_of before

-- the kinds of a table's columns
abbrev pub kinds_of : TableDef → List Kind
kinds_of table = map (λ column. column.kind) table.columns

-- the columns of a table have these rows so far
pub record HaveRows (table : TableDef) (rows : List Row) (columns : List GrowingColumn) : Type 0 where
  pub kinds : map kind_of columns ≡ kinds_of table
  pub each : (place : ℕ) → place < length columns → column_at columns place ≡ values_at place rows

-- the number that a column ends with
abbrev pub last_number : List Value → ℕ
last_number values = number_in (slice_index_or values (length values - 1) (number 0))

-- whether the last row's key is one of these; there is none if keys may be equal
abbrev pub is_key_among : Option ℕ → List GrowingColumn → List ℕ → Bool
is_key_among None columns keys = false
is_key_among (Some place) columns keys = list_any (nat_eq (last_number (column_at columns place))) keys

-- the last row's key is one of the keys now
abbrev pub AddsKey : Option ℕ → List GrowingColumn → List ℕ → List ℕ → Type 0
AddsKey None columns before after = Unit {0}
AddsKey (Some place) columns before after =
    (key : ℕ) → list_any (nat_eq key) after ≡ (nat_eq key (last_number (column_at columns place)) || list_any (nat_eq key) before)

-- the keys are those of the rows
abbrev pub AreKeysOf : Option ℕ → List Row → List ℕ → Type 0
AreKeysOf None rows keys = Unit {0}
AreKeysOf (Some place) rows keys = (key : ℕ) → list_any (nat_eq key) keys ≡ list_any (nat_eq key) (keys_at place rows)

-- the columns and the keys after a row that this gives, and that comes after the rows that are done
pub record AddsRow (given : Result Row ImportError) (table : TableDef) (done : List Row) (columns : List GrowingColumn) (keys : List ℕ) : Type 0 where
  pub values : Row
  pub gives : given ≡ Ok values
  pub rows : HaveRows table (done ++ values ∷ []) columns
  pub known : AreKeysOf (key_place table) (done ++ values ∷ []) keys

-- the columns have all rows that this gives, and no more than the limit
pub record HaveAllRows (given : Result (List Row) ImportError) (limit : ℕ) (table : TableDef) (columns : List GrowingColumn) : Type 0 where
  pub all : List Row
  pub gives : given ≡ Ok all
  pub few : length all ≤ limit
  pub rows : HaveRows table all columns

-- columns of the kinds of these definitions, with no values
pub record AreEmpty (definitions : List ColumnDef) (columns : List GrowingColumn) : Type 0 where
  pub kinds : map kind_of columns ≡ map (λ definition. definition.kind) definitions
  pub values : AllByRecursion (λ column. values_of column ≡ []) columns

-- a finished column holds the values
pub record Holds (column : GrowingColumn) (finished : ColumnValues) : Type 0 where
  pub values : HoldsValues (kind_of column) (values_of column) finished
  pub fits : IsColumnOf (kind_of column) (length (values_of column)) finished

-- the finished columns are those of the columns at the same places
pub record HoldAll (columns : List GrowingColumn) (finished : List ColumnValues) : Type 0 where
  pub count : length finished ≡ length columns
  pub each : (place : ℕ) (column : GrowingColumn) (one : ColumnValues) → slice_get columns place ≡ Some column
      → slice_get finished place ≡ Some one → Holds column one
