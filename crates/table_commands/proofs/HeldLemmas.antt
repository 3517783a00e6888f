-- A table that is held with all its columns, and the columns that are made of them.
use Rattle.std.proofs.Common.{◌≡◌, ◌∙◌, ◌<◌, ◌≤◌, ◌+◌, ℕ, zero, suc, List, [], ◌∷◌, ◌++◌, Option, Some, refl, sym, ap, subst, length, map, take, get_or, slice_get, arith}
use Rattle.std.specs.Prelude.{is_some, IsSome}
use Rattle.std.specs.List.{AllByRecursion, range_with_len}
use Rattle.std.proofs.lemmas.List.{map-append, take_all, take_more}
use Rattle.std.proofs.lemmas.Option.{slice_get-get_or}
use Rattle.definitions_outcomes.specs.Computed.{and_then}
use Rattle.catalog_core.specs.Columns.{columns_in, needs_of_table}
use Rattle.catalog_core.specs.LawfulSchemas.{IsTableDef}
use Rattle.catalog_core.specs.declared.columns.ColumnId.{ColumnId}
use Rattle.catalog_core.specs.declared.schemas.ColumnDef.{ColumnDef}
use Rattle.catalog_core.specs.declared.schemas.TableDef.{TableDef}
use Rattle.table_core.specs.Held.{HoldNeeds}
use Rattle.table_core.specs.Tables.{Stored, TableState, stored_at}
use Rattle.table_core.proofs.PlaceLemmas.{all_at}
use Rattle.answer_text.specs.Exports.{columns_there}
use Rattle.answer_text.specs.HeldColumns.{columns_at}
use Rattle.answer_text.proofs.LineLemmas.{same_columns, there-more}
use Rattle.database_core.specs.Saving.{FitsDefinition, AreColumnsOf, row_count}
use Rattle.table_commands.specs.Databases.{no_table, definition_of}
use Rattle.table_commands.specs.Reformatting.{data_of}
use Rattle.table_commands.specs.Saving.{Data, IsStoredAs, AreStoredAs}
use Rattle.table_commands.specs.Views.{AreHeld, IsFound}
use Rattle.table_commands.specs.declared.databases.Found.{Found}

-- ---- a table that was found, and is held

pub definition_there : (found : Found) → IsFound found → slice_get found.schema.tables found.table ≡ Some (definition_of found)
definition_there found is = slice_get-get_or found.schema.tables found.table no_table is.within

pub lawful_definition : (found : Found) → IsFound found → IsTableDef (definition_of found)
lawful_definition found is = all_at IsTableDef found.schema.tables found.table (definition_of found) is.lawful.tables (definition_there found is)

column_there : (tables : List TableState) (table first count place column : ℕ) → column ≡ first + place → place < count
    → AllByRecursion (λ id. IsSome (stored_at tables id)) (map (λ column. record { table = table; column = column }) (range_with_len first count))
    → IsSome (stored_at tables (record { table = table; column = column }))
column_there tables table first zero place column is within all = absurd (omega (arith, within))
column_there tables table first (suc count) zero column is within all =
    let same : first ≡ column = omega (arith, is) in subst (λ (column : ℕ). IsSome (stored_at tables (record { table = table; column = column }))) same all.0
column_there tables table first (suc count) (suc place) column is within all = column_there tables table (first + 1) count place column (omega (arith, is)) (omega (arith, within)) all.1

pub held_whole : (found : Found) (tables : List TableState) → IsFound found → HoldNeeds found.schema (needs_of_table found.schema found.table) tables
    → AreHeld (definition_of found).columns found.table tables
held_whole found tables is holds =
    let there = definition_there found is in
    let all : columns_in found.schema found.table ≡ map (λ column. record { table = found.table; column = column }) (range_with_len 0 (length (definition_of found).columns)) = rw there refl in
    record {
      count = same_columns found.schema tables found.table (definition_of found) holds.held.of there;
      there = λ place within.
          column_there tables found.table 0 (length (definition_of found).columns) place place (omega arith) within
          (subst (λ (ids : List ColumnId). AllByRecursion (λ id. IsSome (stored_at tables id)) ids) all holds.held.columns);
      texts = λ place definition stored defined held.
          holds.held.of.texts (record { table = found.table; column = place }) definition stored
          (ap (λ (one : Option TableDef). and_then one (λ table. slice_get table.columns place)) there ∙ defined) held;
    }

-- ---- one column more

AreStoredAs-append : (definitions : List ColumnDef) (sources : List Data) (columns : List Stored) (definition : ColumnDef) (source : Data) (stored : Stored) → AreStoredAs definitions sources columns
    → IsStoredAs definition source stored → AreStoredAs (definitions ++ definition ∷ []) (sources ++ source ∷ []) (columns ++ stored ∷ [])
AreStoredAs-append [] [] [] definition source stored all one = (one, tt)
AreStoredAs-append [] [] (other ∷ columns) definition source stored all one = absurd all
AreStoredAs-append [] (other ∷ sources) columns definition source stored all one = absurd all
AreStoredAs-append (other ∷ definitions) [] columns definition source stored all one = absurd all
AreStoredAs-append (other ∷ definitions) (another ∷ sources) [] definition source stored all one = absurd all
AreStoredAs-append (other ∷ definitions) (another ∷ sources) (first ∷ columns) definition source stored all one = (all.0, AreStoredAs-append definitions sources columns definition source stored all.1 one)

AreColumnsOf-append : (rows : ℕ) (definitions : List ColumnDef) (columns : List Stored) (definition : ColumnDef) (stored : Stored) → AreColumnsOf rows definitions columns
    → FitsDefinition rows definition stored → AreColumnsOf rows (definitions ++ definition ∷ []) (columns ++ stored ∷ [])
AreColumnsOf-append rows [] [] definition stored all one = (one, tt)
AreColumnsOf-append rows [] (other ∷ columns) definition stored all one = absurd all
AreColumnsOf-append rows (other ∷ definitions) [] definition stored all one = absurd all
AreColumnsOf-append rows (other ∷ definitions) (first ∷ columns) definition stored all one = (all.0, AreColumnsOf-append rows definitions columns definition stored all.1 one)

-- what is there of a table's first columns
abbrev pub data_before : List TableState → ℕ → ℕ → List Data
data_before tables table place = map data_of (columns_there (take place (columns_at tables table)))

data_more : (tables : List TableState) (table place : ℕ) (held : Stored) → place < length (columns_at tables table) → stored_at tables (record { table = table; column = place }) ≡ Some held
    → data_before tables table (place + 1) ≡ data_before tables table place ++ data_of held ∷ []
data_more tables table place held within is =
    let before = columns_there (take place (columns_at tables table)) in
    ap (map data_of) (there-more tables table place within ∙ ap (λ (slot : Option Stored). before ++ columns_there (slot ∷ [])) is) ∙ map-append data_of before (held ∷ [])

-- a place within the definitions, and the tables that are held
module _ (definitions : List ColumnDef) (table : ℕ) (tables : List TableState) (held : AreHeld definitions table tables) (place : ℕ) (within : place < length definitions) (definition : ColumnDef)
    (defined : definition ≡ get_or definitions place definition) (all : List Stored) (one : Stored) (source : Stored)
    (there : stored_at tables (record { table = table; column = place }) ≡ Some source) (made : IsStoredAs definition (data_of source) one) where
  front : take (place + 1) definitions ≡ take place definitions ++ definition ∷ []
  front = take_more definitions place definition within ∙ ap (λ (last : ColumnDef). take place definitions ++ last ∷ []) (sym defined)

  pub stored_more : AreStoredAs (take place definitions) (data_before tables table place) all → AreStoredAs (take (place + 1) definitions) (data_before tables table (place + 1)) (all ++ one ∷ [])
  stored_more so_far =
      subst (λ (front : List ColumnDef). AreStoredAs front (data_before tables table (place + 1)) (all ++ one ∷ [])) (sym front)
      (subst (λ (sources : List Data). AreStoredAs (take place definitions ++ definition ∷ []) sources (all ++ one ∷ [])) (sym (data_more tables table place source (rw held.count within) there))
      (AreStoredAs-append (take place definitions) (data_before tables table place) all definition (data_of source) one so_far made))

  pub fits_more : (rows : ℕ) → length one.column.values ≡ rows → AreColumnsOf rows (take place definitions) all → AreColumnsOf rows (take (place + 1) definitions) (all ++ one ∷ [])
  fits_more rows whole so_far =
      let at : slice_get definitions place ≡ Some definition = slice_get-get_or definitions place definition within ∙ ap Some (sym defined) in
      subst (λ (front : List ColumnDef). AreColumnsOf rows front (all ++ one ∷ [])) (sym front)
      (AreColumnsOf-append rows (take place definitions) all definition one so_far (whole, ap is_some made.texts ∙ held.texts place definition source at there))

-- ---- all of them

pub stored_all : (definitions : List ColumnDef) (table : ℕ) (tables : List TableState) (all : List Stored) (place : ℕ) → AreHeld definitions table tables → length definitions ≤ place
    → AreStoredAs (take place definitions) (data_before tables table place) all → AreStoredAs definitions (map data_of (columns_there (columns_at tables table))) all
stored_all definitions table tables all place held past are =
    let slots = columns_at tables table in
    subst (λ (front : List ColumnDef). AreStoredAs front (map data_of (columns_there slots)) all) (take_all place definitions past)
    (subst (λ (front : List (Option Stored)). AreStoredAs (take place definitions) (map data_of (columns_there front)) all) (take_all place slots (rw held.count past)) are)

pub fits_all : (rows : ℕ) (definitions : List ColumnDef) (all : List Stored) (place : ℕ) → length definitions ≤ place → AreColumnsOf rows (take place definitions) all → AreColumnsOf rows definitions all
fits_all rows definitions all place past are = subst (λ (front : List ColumnDef). AreColumnsOf rows front all) (take_all place definitions past) are

-- the row count of the columns is that of each
pub fits_own : (rows : ℕ) (definitions : List ColumnDef) (columns : List Stored) → AreColumnsOf rows definitions columns → AreColumnsOf (row_count columns) definitions columns
fits_own rows [] [] are = tt
fits_own rows [] (stored ∷ columns) are = absurd are
fits_own rows (definition ∷ definitions) [] are = absurd are
fits_own rows (definition ∷ definitions) (stored ∷ columns) are = subst (λ rows. AreColumnsOf rows (definition ∷ definitions) (stored ∷ columns)) (sym are.0.0) are
