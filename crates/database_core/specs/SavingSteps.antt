-- The steps of a save as the code takes them.
use Rattle.std.specs.Prelude.{◌≡◌, ℕ, ◌≤◌, List, Option, Some, None, Result, IsErrOf}
use Rattle.std.specs.List.{Contains}
use Rattle.stream_core.specs.Faults.{Rose}
use Rattle.stream_core.specs.Files.{Files}
use Rattle.catalog_core.specs.declared.schemas.ColumnDef.{ColumnDef}
use Rattle.table_core.specs.Tables.{Stored}
use Rattle.database_core.specs.Saving.{File, put, puts, AreFilesOfColumn, AreDataFiles}
use Rattle.database_core.specs.TableFiles.{Same}
use Rattle.database_core.specs.declared.errors.SaveTableError.{SaveTableError}
use Rattle.database_core.specs.declared.errors.SaveTableError.TheVariants as error

-- this holds of the files before and after, or neither is told
abbrev pub Between : (Files → Files → Type 0) → Option Files → Option Files → Type 0
Between holds None after = after ≡ None
Between holds (Some before) None = ⊥
Between holds (Some before) (Some after) = holds before after

-- no file but these changed
abbrev pub ChangesOnly : List (List ℕ) → Files → Files → Type 0
ChangesOnly names before after = (name : List ℕ) → (Contains names name → ⊥) → after name ≡ before name

-- one file was set, those of a column, and those of columns
abbrev pub Sets : File → Files → Files → Type 0
Sets file before after = Same after (put before file)

abbrev pub WritesColumn : List ℕ → ℕ → ColumnDef → Stored → Files → Files → Type 0
WritesColumn table slot definition stored before after = (written : List File) × AreFilesOfColumn table slot definition stored written × Same after (puts before written)

abbrev pub WritesColumns : List ℕ → ℕ → List ColumnDef → List Stored → Files → Files → Type 0
WritesColumns table slot definitions columns before after = (written : List File) × AreDataFiles table slot definitions columns written × Same after (puts before written)

-- What a step before the now file's save answers: `Store` where a call failed, and never `Switch`.
pub record BlamesStore {A : Type 0} (before after : ℕ) (result : Result A SaveTableError) : Type 0 where
  pub early : IsErrOf result error.Switch → ⊥
  pub cause : IsErrOf result error.Store → Rose before after
  pub calm : (IsErrOf result error.Store → ⊥) → after ≡ before
  pub later : before ≤ after
