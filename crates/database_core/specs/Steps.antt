-- The steps of opening as the code takes them.
use Rattle.std.specs.Prelude.{◌≡◌, ◌≢◌, ℕ, List, Option, Some, None, Result, Ok, Err, if◌then◌else◌}
use Rattle.definitions_columns.specs.FileFaults.{HasFileFault}
use Rattle.definitions_outcomes.specs.Outcomes.{Outcomes, Gives, OneOrFault, Then}
use Rattle.stream_core.specs.Files.{Files}
use Rattle.column_core.specs.Columns.{Shape}
use Rattle.column_file.specs.declared.errors.ColumnError.TheVariants as column
use Rattle.catalog_core.specs.Texts.{Text}
use Rattle.catalog_core.specs.Dictionaries.{IsDictionaryFile, HasDictionaryFault}
use Rattle.catalog_core.specs.declared.columns.ColumnId.{ColumnId}
use Rattle.catalog_core.specs.declared.errors.DictError.TheVariants as dictionary
use Rattle.catalog_core.specs.declared.schemas.Kind.{Kind}
use Rattle.catalog_core.specs.declared.schemas.Kind.TheVariants as kind
use Rattle.table_core.specs.Tables.{Stored, TableState, placed, are_codes}
use Rattle.database_core.specs.Opening.{HoldsColumn, error_of, TextsOf}
use Rattle.database_core.specs.declared.errors.OpenError.{OpenError}
use Rattle.database_core.specs.declared.errors.OpenError.TheVariants as error

-- the column of bytes, and the texts of bytes
abbrev pub HeldIn : List ℕ → List ℕ → Outcomes Shape OpenError
HeldIn file bytes = OneOrFault (HoldsColumn bytes) (HasFileFault bytes) (λ found. error.Column file (error_of found))

abbrev pub TextsIn : List ℕ → List ℕ → Outcomes (List Text) OpenError
TextsIn file bytes = OneOrFault (λ texts. IsDictionaryFile texts bytes) (HasDictionaryFault bytes) (λ found. error.Dict file found)

-- the texts of a column, if its kind has such
abbrev pub TextsFor : Files → List ℕ → Kind → Outcomes (Option (List Text)) OpenError
TextsFor files file kind.Number = Gives (Ok None)
TextsFor files file kind.Text = Then (TextsOf files file) (λ texts. Gives (Ok (Some texts)))

abbrev pub stored : Shape → Option (List Text) → Stored
stored held texts = record { column = held; texts = texts }

-- the tables with one more column, if its values are codes of its texts
abbrev pub put_in : List ℕ → List TableState → ColumnId → Shape → Option (List Text) → Result (List TableState) OpenError
put_in file tables id held texts = if are_codes texts held.values then Ok (placed tables id (stored held texts)) else Err (error.BadCode file)

-- the step never calls the store
abbrev pub NeedsNoStore : {X : Type 0} → Result X OpenError → Type 0
NeedsNoStore result = (result ≡ Err error.Store) → ⊥

-- The answer names no table, or only this one, and no other cause for want of memory.
abbrev pub NamesNone : OpenError → Type 0
NamesNone error.Store = Unit {0}
NamesNone (error.TooLong file) = Unit {0}
NamesNone (error.NoFile file) = Unit {0}
NamesNone (error.BadNow table) = ⊥
NamesNone (error.Column file given) = given ≢ column.Memory
NamesNone (error.Length file) = Unit {0}
NamesNone (error.Dict file given) = given ≢ dictionary.Memory
NamesNone (error.BadCode file) = Unit {0}
NamesNone (error.RepeatedKey table) = ⊥
NamesNone error.Memory = Unit {0}

abbrev pub NamesTable : ℕ → OpenError → Type 0
NamesTable table error.Store = Unit {0}
NamesTable table (error.TooLong file) = Unit {0}
NamesTable table (error.NoFile file) = Unit {0}
NamesTable table (error.BadNow named) = named ≡ table
NamesTable table (error.Column file given) = given ≢ column.Memory
NamesTable table (error.Length file) = Unit {0}
NamesTable table (error.Dict file given) = given ≢ dictionary.Memory
NamesTable table (error.BadCode file) = Unit {0}
NamesTable table (error.RepeatedKey named) = named ≡ table
NamesTable table error.Memory = Unit {0}
