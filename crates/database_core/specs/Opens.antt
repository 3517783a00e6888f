-- How the opening of a database ends in the code, and what that says of its definition.
use Rattle.std.specs.Prelude.{◌≡◌, ◌≢◌, ℕ, ◌≤◌, Option, Result, Ok, Err, IsErrOf}
use Rattle.std.specs.List.{Contains}
use Rattle.definitions_outcomes.specs.Outcomes.{Outcomes}
use Rattle.stream_core.specs.Faults.{Rose}
use Rattle.stream_core.specs.Files.{Files}
use Rattle.column_file.specs.declared.errors.ColumnError.TheVariants as column
use Rattle.catalog_core.specs.declared.columns.Needs.{Needs}
use Rattle.catalog_core.specs.declared.errors.DictError.TheVariants as dictionary
use Rattle.database_core.specs.declared.errors.OpenError.{OpenError}
use Rattle.database_core.specs.declared.errors.OpenError.TheVariants as error

-- the step ends as its definition, unless a call of the store failed or memory was refused
abbrev pub Opens : {X A : Type 0} → (X → A) → Result X OpenError → Outcomes A OpenError → Type 0
Opens view (Ok value) step = step (Ok (view value))
Opens view (Err error.Store) step = Unit {0}
Opens view (Err (error.TooLong file)) step = step (Err (error.TooLong file))
Opens view (Err (error.NoFile file)) step = step (Err (error.NoFile file))
Opens view (Err (error.BadNow table)) step = step (Err (error.BadNow table))
Opens view (Err (error.Column file given)) step = step (Err (error.Column file given))
Opens view (Err (error.Length file)) step = step (Err (error.Length file))
Opens view (Err (error.Dict file given)) step = step (Err (error.Dict file given))
Opens view (Err (error.BadCode file)) step = step (Err (error.BadCode file))
Opens view (Err (error.RepeatedKey table)) step = step (Err (error.RepeatedKey table))
Opens view (Err error.Memory) step = Unit {0}

-- What a step over a store keeps: files stay as they are, and the count of failed calls rises only if the answer says so.
pub record KeepsStore {X : Type 0} (files_before files_after : Option Files) (before after : ℕ) (result : Result X OpenError) : Type 0 where
  pub files : files_after ≡ files_before
  pub cause : IsErrOf result error.Store → Rose before after
  pub calm : (IsErrOf result error.Store → ⊥) → after ≡ before
  pub later : before ≤ after

-- The answer names a table that is needed, and no other cause for want of memory.
abbrev pub Names : Needs → OpenError → Type 0
Names needs error.Store = Unit {0}
Names needs (error.TooLong file) = Unit {0}
Names needs (error.NoFile file) = Unit {0}
Names needs (error.BadNow table) = Contains needs.tables table
Names needs (error.Column file given) = given ≢ column.Memory
Names needs (error.Length file) = Unit {0}
Names needs (error.Dict file given) = given ≢ dictionary.Memory
Names needs (error.BadCode file) = Unit {0}
Names needs (error.RepeatedKey table) = Contains needs.tables table
Names needs error.Memory = Unit {0}
