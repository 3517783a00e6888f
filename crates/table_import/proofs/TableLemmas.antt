-- The finished columns of a table's rows.
use Rattle.std.proofs.Common.{◌≡◌, ◌∙◌, ◌<◌, ◌≤◌, ℕ, zero, suc, nat_eq, List, [], ◌∷◌, length, map, get_or, Option, Some, None, refl, sym, ap, arith}
use Rattle.std.specs.Prelude.{slice_get, IfSome, option_map}
use Rattle.std.specs.List.{AllByRecursion, IsDistinct}
use Rattle.std.proofs.lemmas.List.{length-map}
use Rattle.std.proofs.lemmas.Option.{same_Some, slice_get-map, slice_get_within}
use Rattle.definitions_blocks.specs.Columns.{max_rows}
use Rattle.catalog_core.specs.LawfulSchemas.{IsTableDef, kind_at}
use Rattle.catalog_core.specs.declared.schemas.Kind.TheVariants as kind
use Rattle.catalog_core.specs.declared.schemas.ColumnDef.{ColumnDef}
use Rattle.catalog_core.specs.declared.schemas.TableDef.{TableDef}
use Rattle.table_import.specs.Imports.{Row, number, number_in, number_at, keys_at, key_place}
use Rattle.table_import.specs.TableData.{values_at, HoldsValues, HoldRows, IsColumnOf, AreTableColumns}
use Rattle.table_import.specs.Growing.{kind_of, kinds_of, values_of, column_at, IsLawful, HaveRows, HoldAll}
use Rattle.table_import.specs.declared.tables.ColumnValues.{ColumnValues}
use Rattle.table_import.specs.declared.columns.GrowingColumn.{GrowingColumn}
use Rattle.table_import.proofs.AllLemmas.{all_from_places}
use Rattle.table_import.proofs.RowLemmas.{count_of_kinds, key_kind, definition_of_kind}
use Rattle.table_import.proofs.WholeLemmas.{KeysDiffer}

-- the values of one column of the rows are lawful
value_at : (row : Row) (place : ℕ) → AllByRecursion IsLawful row → IsLawful (get_or row place (number 0))
value_at [] place all = tt
value_at (value ∷ row) zero all = all.0
value_at (value ∷ row) (suc place) all = value_at row place all.1

values_lawful : (place : ℕ) (rows : List Row) → AllByRecursion (AllByRecursion IsLawful) rows → AllByRecursion IsLawful (values_at place rows)
values_lawful place [] all = tt
values_lawful place (row ∷ rows) all = (value_at row place all.0, values_lawful place rows all.1)

column_is : (columns : List GrowingColumn) (place : ℕ) (column : GrowingColumn) → slice_get columns place ≡ Some column → column_at columns place ≡ values_of column
column_is [] place column is = absurd (cc is)
column_is (first ∷ columns) zero column is = ap values_of (same_Some first column is)
column_is (first ∷ columns) (suc place) column is = column_is columns place column is

-- numbers are the values that they give
pub numbers_back : (values : List ℕ) → map number_in (map (λ one. number one) values) ≡ values
numbers_back [] = refl
numbers_back (value ∷ values) = ap (λ more. value ∷ more) (numbers_back values)

numbers_at : (place : ℕ) (rows : List Row) → map number_in (values_at place rows) ≡ keys_at place rows
numbers_at place [] = refl
numbers_at place (row ∷ rows) = ap (λ more. number_at place row ∷ more) (numbers_at place rows)

keys_are : (place : ℕ) (rows : List Row) (values : List ℕ) → map (λ one. number one) values ≡ values_at place rows → values ≡ keys_at place rows
keys_are place rows values same = sym (numbers_back values) ∙ ap (map number_in) same ∙ numbers_at place rows

if_there : {A : Type 0} {P : A → Type 0} (one : Option A) → ((value : A) → one ≡ Some value → P value) → IfSome one P
if_there None at = tt
if_there (Some value) at = at value refl

pub some_of : {A : Type 0} (items : List A) (place : ℕ) → place < length items → (item : A) × (slice_get items place ≡ Some item)
some_of [] place within = absurd (omega (arith, within))
some_of (item ∷ items) zero within = (item, refl)
some_of (item ∷ items) (suc place) within = some_of items place (omega (arith, within))

module _ (table : TableDef) (rows : List Row) (columns : List GrowingColumn) (have : HaveRows table rows columns) where
  -- what a column has
  values_are : (place : ℕ) (column : GrowingColumn) → slice_get columns place ≡ Some column → values_of column ≡ values_at place rows
  values_are place column is = sym (column_is columns place column is) ∙ have.each place (slice_get_within columns place column is)

  pub all_few : length rows ≤ max_rows → AllByRecursion (λ column. length (values_of column) ≤ max_rows) columns
  all_few few = all_from_places (λ column. length (values_of column) ≤ max_rows) columns
      (λ place column is. rw (values_are place column is, length-map rows (λ row. get_or row place (number 0))) few)

  pub all_lawful : AllByRecursion (AllByRecursion IsLawful) rows → AllByRecursion (λ column. AllByRecursion IsLawful (values_of column)) columns
  all_lawful lawful = all_from_places (λ column. AllByRecursion IsLawful (values_of column)) columns
      (λ place column is. rw (values_are place column is) (values_lawful place rows lawful))

  module _ (finished : List ColumnValues) (all : HoldAll columns finished) where
    count_is : length finished ≡ length table.columns
    count_is = all.count ∙ count_of_kinds table columns have.kinds

    -- the column that is finished at a place
    one_of : (place : ℕ) (one : ColumnValues) → slice_get finished place ≡ Some one → (column : GrowingColumn) × (slice_get columns place ≡ Some column)
    one_of place one is = some_of columns place (omega (arith, slice_get_within finished place one is, all.count))

    kind_is : (place : ℕ) (definition : ColumnDef) (column : GrowingColumn) → slice_get table.columns place ≡ Some definition → slice_get columns place ≡ Some column → kind_of column ≡ definition.kind
    kind_is place definition column defined is =
        let here : slice_get (map kind_of columns) place ≡ Some (kind_of column) = slice_get-map kind_of columns place ∙ ap (option_map kind_of) is in
        let there : slice_get (kinds_of table) place ≡ Some definition.kind = slice_get-map (λ (one : ColumnDef). one.kind) table.columns place ∙ ap (option_map (λ (one : ColumnDef). one.kind)) defined in
        same_Some (kind_of column) definition.kind (sym here ∙ ap (λ kinds. slice_get kinds place) have.kinds ∙ there)

    pub hold_rows : HoldRows table rows finished
    hold_rows = record {
      count = count_is;
      values = λ place definition one defined is.
          let (column, there) = one_of place one is in
          let holds = (all.each place column one there is).values in
          rw (← kind_is place definition column defined there, ← values_are place column there) holds;
    }

    column_fits : (place : ℕ) (definition : ColumnDef) (one : ColumnValues) → slice_get table.columns place ≡ Some definition → slice_get finished place ≡ Some one → IsColumnOf definition.kind (length rows) one
    column_fits place definition one defined is =
        let (column, there) = one_of place one is in
        let fits = (all.each place column one there is).fits in
        let count : length (values_of column) ≡ length rows = ap length (values_are place column there) ∙ length-map rows (λ row. get_or row place (number 0)) in
        rw (← kind_is place definition column defined there, ← count) fits

    keys_fit : (key : Option ℕ) → IfSome key (λ place. kind_at table.columns place ≡ Some kind.Number) → KeysDiffer key rows
        → IfSome key (λ place. IfSome (slice_get finished place) (λ column. IsDistinct nat_eq column.values))
    keys_fit None numbers differ = tt
    keys_fit (Some place) numbers differ = if_there (slice_get finished place) (λ one is.
        let (definition, defined, same) = definition_of_kind table.columns place kind.Number numbers in
        let holds : HoldsValues kind.Number (values_at place rows) one = rw same at (hold_rows.values place definition one defined is) in
        rw (keys_are place rows one.values holds.0) differ)

    pub table_columns : IsTableDef table → KeysDiffer (key_place table) rows → AreTableColumns table (length rows) finished
    table_columns lawful differ = record {
      count = count_is;
      each = column_fits;
      keys = keys_fit (key_place table) (key_kind table lawful) differ;
    }
