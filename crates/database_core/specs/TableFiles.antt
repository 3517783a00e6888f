-- A table's files: the now file, and two slots of data files, of which the now file names one.
use Rattle.std.specs.Prelude.{◌≡◌, ℕ, ◌⊎◌, ◌==◌, ◌↔◌, List, [], ◌∷◌, flat_map, Option, Some, None, Result, if◌then◌else◌}
use Rattle.std.specs.List.{Contains}
use Rattle.stream_core.specs.Files.{Files}
use Rattle.stream_core.specs.Names.{now_file_name, column_file_name, dictionary_file_name}
use Rattle.catalog_core.specs.Columns.{IsNeeds}
use Rattle.catalog_core.specs.LawfulSchemas.{IsSchema}
use Rattle.catalog_core.specs.declared.columns.Needs.{Needs}
use Rattle.catalog_core.specs.declared.schemas.Kind.{Kind}
use Rattle.catalog_core.specs.declared.schemas.Kind.TheVariants as kind
use Rattle.catalog_core.specs.declared.schemas.ColumnDef.{ColumnDef}
use Rattle.catalog_core.specs.declared.schemas.TableDef.{TableDef}
use Rattle.catalog_core.specs.declared.schemas.Schema.{Schema}
use Rattle.table_core.specs.Tables.{TableState}
use Rattle.database_core.specs.NowFiles.{Now, now_in}
use Rattle.database_core.specs.Opening.{Opened}
use Rattle.database_core.specs.declared.errors.OpenError.{OpenError}

-- all files are the same, and all but one
abbrev pub Same : Files → Files → Type 0
Same held files = (name : List ℕ) → held name ≡ files name

abbrev pub SameBut : List ℕ → Files → Files → Type 0
SameBut but held files = (name : List ℕ) → (name ≡ but → ⊥) → held name ≡ files name

-- where the table's rows stand: nowhere where it has no lawful now file
abbrev pub now_read : Option (List ℕ) → Option Now
now_read None = None
now_read (Some bytes) = now_in bytes

abbrev pub now_of_table : Files → List ℕ → Option Now
now_of_table files table = now_read (files (now_file_name table))

-- the slot that a save writes: the one that does not hold the rows, and `a` where none does
abbrev pub other_slot : Option Now → ℕ
other_slot None = 97
other_slot (Some now) = if now.slot == 97 then 98 else 97

abbrev pub slot_to_write : Files → List ℕ → ℕ
slot_to_write files table = other_slot (now_of_table files table)

-- the names of a column's files in a slot: the column's, and for a text column the dictionary's behind it
abbrev pub dictionary_names : List ℕ → ℕ → List ℕ → Kind → List (List ℕ)
dictionary_names table slot name kind.Number = []
dictionary_names table slot name kind.Text = dictionary_file_name table slot name ∷ []

abbrev pub names_of_column : List ℕ → ℕ → ColumnDef → List (List ℕ)
names_of_column table slot column = column_file_name table slot column.name ∷ dictionary_names table slot column.name column.kind

-- the names of a table's data files in a slot
abbrev pub data_file_names : TableDef → ℕ → List (List ℕ)
data_file_names table slot = flat_map (names_of_column table.name slot) table.columns

-- the data files that a save of the table writes, and all files that it writes: these, and then the now file
abbrev pub IsSpareFile : TableDef → Files → List ℕ → Type 0
IsSpareFile table files name = Contains (data_file_names table (slot_to_write files table.name)) name

abbrev pub WritesTable : TableDef → Files → List ℕ → Type 0
WritesTable table files name = (name ≡ now_file_name table.name) ⊎ IsSpareFile table files name

-- no file differs but some that a save of the table writes
abbrev pub ChangesTable : TableDef → Option Files → Option Files → Type 0
ChangesTable table None after = after ≡ None
ChangesTable table (Some files) None = ⊥
ChangesTable table (Some files) (Some held) = (name : List ℕ) → (WritesTable table files name → ⊥) → held name ≡ files name

-- whatever is needed of a database, both open in the same way: with the same data, or the same refusal
abbrev pub SameRows : Files → Files → Type 0
SameRows held files =
    (schema : Schema) (needs : Needs) (end : Result (List TableState) OpenError) → IsSchema schema → IsNeeds schema needs
    → Opened held schema needs end ↔ Opened files schema needs end
