-- The columns of rows.
use Rattle.std.specs.Prelude.{◌≡◌, ℕ, true, not, nat_lt, nat_eq, List, map, length, Option, Some, None, is_some, IfSome, slice_get, slice_index_or}
use Rattle.std.specs.List.{list_all, IsDistinct}
use Rattle.catalog_core.specs.Texts.{Text}
use Rattle.catalog_core.specs.Dictionaries.{AreTexts, AreDistinctTextsOf}
use Rattle.catalog_core.specs.Schemas as schemas
use Rattle.catalog_core.specs.declared.schemas.Kind.{Kind}
use Rattle.catalog_core.specs.declared.schemas.Kind.TheVariants as kind
use Rattle.catalog_core.specs.declared.schemas.ColumnDef.{ColumnDef}
use Rattle.catalog_core.specs.declared.schemas.TableDef.{TableDef}
use Rattle.table_import.specs.Imports.{Value, number, text, Row, key_place}
use Rattle.table_import.specs.declared.tables.ColumnValues.{ColumnValues}

-- the values of the rows at a place
abbrev pub values_at : ℕ → List Row → List Value
values_at place rows = map (λ row. slice_index_or row place (number 0)) rows

-- a column holds these values: numbers as they are, texts by codes of the dictionary of just these texts
abbrev pub HoldsValues : Kind → List Value → ColumnValues → Type 0
HoldsValues kind.Number values column = (map (λ value. number value) column.values ≡ values) × (column.dictionary ≡ None)
HoldsValues kind.Text values column =
    (texts : List Text) × (dictionary : List Text) × (values ≡ map (λ one. text one) texts) × (column.dictionary ≡ Some dictionary)
    × AreDistinctTextsOf texts dictionary × (map (slice_get dictionary) column.values ≡ map (λ one. Some one) texts)

-- the columns of a table hold the rows, each those at its place
pub record HoldRows (table : TableDef) (rows : List Row) (columns : List ColumnValues) : Type 0 where
  pub count : length columns ≡ length table.columns
  pub values : (place : ℕ) (definition : ColumnDef) (column : ColumnValues) → slice_get table.columns place ≡ Some definition
      → slice_get columns place ≡ Some column → HoldsValues definition.kind (values_at place rows) column

-- the texts are a dictionary, and each value is a code of it
abbrev pub HasCodes : Option (List Text) → List ℕ → Type 0
HasCodes None values = Unit {0}
HasCodes (Some texts) values = AreTexts texts × (list_all (λ value. nat_lt value (length texts)) values ≡ true)

-- a column is one of a table with so many rows: it has a value for each, and a dictionary just if it has texts
pub record IsColumnOf (kind : Kind) (rows : ℕ) (column : ColumnValues) : Type 0 where
  pub count : length column.values ≡ rows
  pub dictionary : is_some column.dictionary ≡ not (schemas.is_number kind)
  pub codes : HasCodes column.dictionary column.values

-- the columns are a table's, and its keys differ if they have to
pub record AreTableColumns (table : TableDef) (rows : ℕ) (columns : List ColumnValues) : Type 0 where
  pub count : length columns ≡ length table.columns
  pub each : (place : ℕ) (definition : ColumnDef) (column : ColumnValues) → slice_get table.columns place ≡ Some definition
      → slice_get columns place ≡ Some column → IsColumnOf definition.kind rows column
  pub keys : IfSome (key_place table) (λ place. IfSome (slice_get columns place) (λ column. IsDistinct nat_eq column.values))

-- rows have one list of columns at most
abbrev pub OneImport : Type 0
OneImport = (table : TableDef) (rows : List Row) (columns other : List ColumnValues) → HoldRows table rows columns → HoldRows table rows other → columns ≡ other
