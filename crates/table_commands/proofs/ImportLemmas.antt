-- Columns that are stored as the schema says.
use Rattle.std.proofs.Common.{◌≡◌, ◌∙◌, ◌<◌, ◌≤◌, ◌+◌, ℕ, suc, List, [], ◌∷◌, ◌++◌, length, map, drop, get_or, Some, refl, sym, ap, subst, arith}
use Rattle.std.proofs.lemmas.List.{append_assoc, drop_more, length-append}
use Rattle.std.specs.Prelude.{not, is_some, slice_get}
use Rattle.std.specs.List.{AllByRecursion}
use Rattle.definitions_blocks.specs.Columns.{max_rows}
use Rattle.catalog_core.specs.Schemas.{is_number}
use Rattle.catalog_core.specs.declared.schemas.Kind.{Kind}
use Rattle.catalog_core.specs.declared.schemas.Kind.TheVariants as kind
use Rattle.catalog_core.specs.declared.schemas.ColumnDef.{ColumnDef}
use Rattle.table_core.specs.Held.{is_text}
use Rattle.table_core.specs.Tables.{Stored}
use Rattle.database_core.specs.Saving.{FitsDefinition, AreColumnsOf, row_count}
use Rattle.table_import.specs.TableData.{IsColumnOf}
use Rattle.table_import.specs.declared.tables.ColumnValues.{ColumnValues}
use Rattle.table_commands.specs.Importing.{data_of}
use Rattle.table_commands.specs.Saving.{IsStoredAs, AreStoredAs}

-- while columns are left, so are definitions
pub within_rest : (definitions : List ColumnDef) (columns : List ColumnValues) (place : ℕ) (front : List ColumnValues) (column : ColumnValues) (rest : List ColumnValues)
    → length columns ≡ length definitions → place ≡ length front → front ++ column ∷ rest ≡ columns → place < length definitions
within_rest definitions columns place front column rest same is split =
    let many : length front + length (column ∷ rest) ≡ length columns = sym (length-append front (column ∷ rest)) ∙ ap length split in omega (arith, many, same, is)

-- one column more is stored, before the rest
pub stored_more : (whole : List Stored → Type 0) (definitions : List ColumnDef) (place : ℕ) (definition : ColumnDef) (column : ColumnValues) (rest : List ColumnValues) (all : List Stored) (one : Stored)
    → place < length definitions → definition ≡ get_or definitions place definition → IsStoredAs definition (data_of column) one
    → ((more : List Stored) → AreStoredAs (drop place definitions) (map data_of (column ∷ rest)) more → whole (all ++ more))
    → (more : List Stored) → AreStoredAs (drop (place + 1) definitions) (map data_of rest) more → whole ((all ++ one ∷ []) ++ more)
stored_more whole definitions place definition column rest all one within is stored before more are =
    let here : drop place definitions ≡ definition ∷ drop (place + 1) definitions = drop_more definitions place definition within ∙ ap (λ d. d ∷ drop (place + 1) definitions) (sym is) in
    let both : AreStoredAs (drop place definitions) (map data_of (column ∷ rest)) (one ∷ more) =
    subst (λ list. AreStoredAs list (map data_of (column ∷ rest)) (one ∷ more)) (sym here) (stored, are) in
    subst whole (sym (append_assoc all (one ∷ []) more)) (before (one ∷ more) both)

-- each of the columns is one of a table with so many rows
abbrev pub AreEachOf : ℕ → List ColumnDef → List ColumnValues → Type 0
AreEachOf rows definitions columns =
    (place : ℕ) (definition : ColumnDef) (column : ColumnValues) → slice_get definitions place ≡ Some definition → slice_get columns place ≡ Some column
    → IsColumnOf definition.kind rows column

pub few_values : (rows : ℕ) (definitions : List ColumnDef) (columns : List ColumnValues) → rows ≤ max_rows → length columns ≡ length definitions → AreEachOf rows definitions columns
    → AllByRecursion (λ column. length column.values ≤ max_rows) columns
few_values rows definitions [] few same each = tt
few_values rows [] (column ∷ columns) few same each = absurd (omega (arith, same))
few_values rows (definition ∷ definitions) (column ∷ columns) few same each =
    let one : length column.values ≡ rows = (each 0 definition column refl refl).count in
    (rw one few, few_values rows definitions columns few (omega (arith, same)) (λ place. each (suc place)))

text_or_number : (given : Kind) → not (is_number given) ≡ is_text given
text_or_number kind.Number = refl
text_or_number kind.Text = refl

fits_one : (rows : ℕ) (definition : ColumnDef) (column : ColumnValues) (stored : Stored) → IsColumnOf definition.kind rows column → IsStoredAs definition (data_of column) stored
    → FitsDefinition rows definition stored
fits_one rows definition column stored of is = (ap length is.values ∙ of.count, ap is_some is.texts ∙ of.dictionary ∙ text_or_number definition.kind)

-- stored columns fit a table's definition
columns_fit : (rows : ℕ) (definitions : List ColumnDef) (columns : List ColumnValues) (stored : List Stored) → AreEachOf rows definitions columns
    → AreStoredAs definitions (map data_of columns) stored → AreColumnsOf rows definitions stored
columns_fit rows [] [] [] each are = tt
columns_fit rows [] [] (one ∷ stored) each are = absurd are
columns_fit rows [] (column ∷ columns) stored each are = absurd are
columns_fit rows (definition ∷ definitions) [] stored each are = absurd are
columns_fit rows (definition ∷ definitions) (column ∷ columns) [] each are = absurd are
columns_fit rows (definition ∷ definitions) (column ∷ columns) (one ∷ stored) each are =
    (fits_one rows definition column one (each 0 definition column refl refl) are.0, columns_fit rows definitions columns stored (λ place. each (suc place)) are.1)

-- how many rows they have is what the first one has
counted : (rows : ℕ) (definitions : List ColumnDef) (stored : List Stored) → AreColumnsOf rows definitions stored → AreColumnsOf (row_count stored) definitions stored
counted rows [] [] are = tt
counted rows [] (one ∷ stored) are = absurd are
counted rows (definition ∷ definitions) [] are = absurd are
counted rows (definition ∷ definitions) (one ∷ stored) are = subst (λ count. AreColumnsOf count (definition ∷ definitions) (one ∷ stored)) (sym are.0.0) are

pub stored_fit : (rows : ℕ) (definitions : List ColumnDef) (columns : List ColumnValues) (stored : List Stored) → AreEachOf rows definitions columns
    → AreStoredAs definitions (map data_of columns) stored → AreColumnsOf (row_count stored) definitions stored
stored_fit rows definitions columns stored each are = counted rows definitions stored (columns_fit rows definitions columns stored each are)
