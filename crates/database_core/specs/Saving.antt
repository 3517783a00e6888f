-- What saving a table writes.
use Rattle.std.specs.Prelude.{◌≡◌, ℕ, List, [], ◌∷◌, ◌++◌, length, slice_get, Option, Some, None, Result, Ok, Err, is_some, IfSome, IsTrue, ◌≤◌, if◌then◌else◌}
use Rattle.std.specs.List.{AllByRecursion, IsDistinct}
use Rattle.std.specs.Str.{bytes_eq}
use Rattle.definitions_columns.specs.ColumnFiles.{IsColumnFile}
use Rattle.stream_core.specs.Files.{Files}
use Rattle.stream_core.specs.Names.{IsName, now_file_name, column_file_name, dictionary_file_name}
use Rattle.block_core.specs.Formats.{format_of}
use Rattle.catalog_core.specs.Dictionaries.{AreTexts, dictionary_file}
use Rattle.catalog_core.specs.Schemas.{names_in}
use Rattle.catalog_core.specs.Texts.{Text}
use Rattle.catalog_core.specs.declared.schemas.ColumnDef.{ColumnDef}
use Rattle.catalog_core.specs.declared.schemas.TableDef.{TableDef}
use Rattle.table_core.specs.Held.{is_text}
use Rattle.table_core.specs.Tables.{Stored, are_codes}
use Rattle.database_core.specs.NowFiles.{Now, now_file}
use Rattle.database_core.specs.Opening.{max_data_file}
use Rattle.database_core.specs.Standing.{StandsAt, ColumnStands}
use Rattle.database_core.specs.TableFiles.{Same, SameBut, SameRows, slot_to_write, names_of_column, IsSpareFile}
use Rattle.database_core.specs.declared.errors.SaveTableError.{SaveTableError}
use Rattle.database_core.specs.declared.errors.SaveTableError.TheVariants as error

-- a file: its name and its bytes
pub record File : Type 0 where
  pub name : List ℕ
  pub bytes : List ℕ

abbrev pub file : List ℕ → List ℕ → File
file name bytes = record { name = name; bytes = bytes }

-- the files with one of them set, and with some set one after the other
abbrev pub put : Files → File → Files
put files file name = if bytes_eq name file.name then Some file.bytes else files name

abbrev pub puts : Files → List File → Files
puts files [] = files
puts files (file ∷ more) = puts (put files file) more

-- the columns of a table: one for each that is defined, texts just for the text columns, and a value for each row
abbrev pub FitsDefinition : ℕ → ColumnDef → Stored → Type 0
FitsDefinition rows definition stored = (length stored.column.values ≡ rows) × (is_some stored.texts ≡ is_text definition.kind)

abbrev pub AreColumnsOf : ℕ → List ColumnDef → List Stored → Type 0
AreColumnsOf rows [] [] = Unit {0}
AreColumnsOf rows [] (stored ∷ more) = ⊥
AreColumnsOf rows (definition ∷ definitions) [] = ⊥
AreColumnsOf rows (definition ∷ definitions) (stored ∷ more) = FitsDefinition rows definition stored × AreColumnsOf rows definitions more

-- how many rows the columns have: a table has one column at least
abbrev pub row_count : List Stored → ℕ
row_count [] = 0
row_count (stored ∷ more) = length stored.column.values

-- a column's files in a slot: the one file of its values in its format, and for a text column the one file of its texts
abbrev pub dictionary_files : List ℕ → ℕ → List ℕ → Option (List Text) → List File
dictionary_files table slot name None = []
dictionary_files table slot name (Some texts) = file (dictionary_file_name table slot name) (dictionary_file texts) ∷ []

abbrev pub files_of_column : List ℕ → ℕ → List ℕ → List ℕ → Option (List Text) → List File
files_of_column table slot name bytes texts = file (column_file_name table slot name) bytes ∷ dictionary_files table slot name texts

abbrev pub AreFilesOfColumn : List ℕ → ℕ → ColumnDef → Stored → List File → Type 0
AreFilesOfColumn table slot definition stored files =
    (bytes : List ℕ) × IsColumnFile (format_of stored.column.format) stored.column.values bytes × IfSome stored.texts AreTexts
    × (files ≡ files_of_column table slot definition.name bytes stored.texts)

-- the data files of a table in a slot, in the order of the schema
abbrev pub AreDataFiles : List ℕ → ℕ → List ColumnDef → List Stored → List File → Type 0
AreDataFiles table slot [] columns files = files ≡ []
AreDataFiles table slot (definition ∷ definitions) [] files = files ≡ []
AreDataFiles table slot (definition ∷ definitions) (stored ∷ more) files =
    (first : List File) × (rest : List File) × (files ≡ first ++ rest) × AreFilesOfColumn table slot definition stored first × AreDataFiles table slot definitions more rest

-- the now file of a slot and a row count
abbrev pub now_file_of : List ℕ → ℕ → ℕ → File
now_file_of table slot rows = file (now_file_name table) (now_file (record { slot = slot; rows = rows }))

-- The files with the table saved: its data files in the slot to write, and then its now file. No other file changes.
abbrev pub IsWritten : Files → TableDef → List Stored → Files → Type 0
IsWritten files table columns held =
    (written : List File) × AreDataFiles table.name (slot_to_write files table.name) table.columns columns written
    × Same held (put (puts files written) (now_file_of table.name (slot_to_write files table.name) (row_count columns)))

-- what became of the files where a table was saved, or was not: see the errors
abbrev pub IsTableSaved : TableDef → List Stored → Option Files → Option Files → Result (Unit {0}) SaveTableError → Type 0
IsTableSaved table columns None after result = after ≡ None
IsTableSaved table columns (Some files) None result = ⊥
IsTableSaved table columns (Some files) (Some held) (Ok done) = IsWritten files table columns held
IsTableSaved table columns (Some files) (Some held) (Err error.Store) = SameRows held files
IsTableSaved table columns (Some files) (Some held) (Err error.Switch) =
    (full : Files) × IsWritten files table columns full × SameBut (now_file_name table.name) held full
IsTableSaved table columns (Some files) (Some held) (Err error.Memory) = SameRows held files

-- Laws.

-- a table is saved in one way at most: from the same files and columns the same files come
abbrev pub OneSaved : Type 0
OneSaved = (files held other : Files) (table : TableDef) (columns : List Stored) → IsWritten files table columns held → IsWritten files table columns other → Same held other

-- the file is not too long, if it is there
abbrev pub IsShort : Files → List ℕ → Type 0
IsShort files name = (bytes : List ℕ) → files name ≡ Some bytes → length bytes ≤ max_data_file

-- what was saved stands in the files: the row count, and each column, if its values are codes of its texts and its files are not too long
abbrev pub SavedStands : Type 0
SavedStands = (files held : Files) (table : TableDef) (columns : List Stored) → IsDistinct bytes_eq (names_in table) → AreColumnsOf (row_count columns) table.columns columns
    → IsWritten files table columns held
    → (now : Now) × StandsAt held table now × (now.rows ≡ row_count columns)
    × ((place : ℕ) (definition : ColumnDef) (stored : Stored) → slice_get table.columns place ≡ Some definition → slice_get columns place ≡ Some stored
    → IsTrue (are_codes stored.texts stored.column.values) → AllByRecursion (IsShort held) (names_of_column table.name now.slot definition)
    → ColumnStands held table definition stored)

-- no opening reads a data file in the slot that does not hold a table's rows
abbrev pub SpareFilesAreUnread : Type 0
SpareFilesAreUnread = (files held : Files) (table : TableDef) → IsName table.name → ((name : List ℕ) → (IsSpareFile table files name → ⊥) → held name ≡ files name)
    → SameRows held files
