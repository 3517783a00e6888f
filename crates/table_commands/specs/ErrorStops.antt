-- What an error ends a command with in the code.
use Rattle.std.specs.Prelude.{◌≡◌, ◌≢◌, ◌<◌, ℕ, Option, Some, None}
use Rattle.column_file.specs.declared.errors.ColumnError.TheVariants as column
use Rattle.catalog_core.specs.declared.errors.DictError.TheVariants as dictionary
use Rattle.catalog_core.specs.declared.errors.SchemaError.{SchemaError}
use Rattle.catalog_core.specs.declared.errors.SchemaError.TheVariants as schema
use Rattle.catalog_core.specs.declared.schemas.Schema.{Schema}
use Rattle.database_core.specs.declared.errors.OpenError.{OpenError}
use Rattle.database_core.specs.declared.errors.OpenError.TheVariants as error
use Rattle.table_commands.specs.Databases.{bad_schema, bad_database}
use Rattle.table_commands.specs.Refusals.{Refusal}
use Rattle.table_commands.specs.Stops.{refusal_of}
use Rattle.table_commands.specs.declared.stops.Stop.{Stop}
use Rattle.table_commands.specs.declared.stops.Stop.TheVariants as stop

-- the refusal that a stop names, if it does
abbrev pub named_by : Stop → Option Refusal
named_by stop.Usage = None
named_by (stop.Refused given) = Some (refusal_of given)
named_by stop.StoreFault = None
named_by stop.InputFault = None
named_by stop.Memory = None

-- the stop says what the error is
abbrev pub SaysSchema : SchemaError → Stop → Type 0
SaysSchema schema.Text given = named_by given ≡ Some (bad_schema schema.Text)
SaysSchema (schema.Shape table column) given = named_by given ≡ Some (bad_schema (schema.Shape table column))
SaysSchema (schema.Repeated name) given = named_by given ≡ Some (bad_schema (schema.Repeated name))
SaysSchema schema.Memory given = given ≡ stop.Memory

abbrev pub SaysOpen : Schema → OpenError → Stop → Type 0
SaysOpen schema error.Store given = given ≡ stop.StoreFault
SaysOpen schema (error.TooLong file) given = named_by given ≡ Some (bad_database schema (error.TooLong file))
SaysOpen schema (error.NoFile file) given = named_by given ≡ Some (bad_database schema (error.NoFile file))
SaysOpen schema (error.BadNow table) given = named_by given ≡ Some (bad_database schema (error.BadNow table))
SaysOpen schema (error.Column file fault) given = named_by given ≡ Some (bad_database schema (error.Column file fault))
SaysOpen schema (error.Length file) given = named_by given ≡ Some (bad_database schema (error.Length file))
SaysOpen schema (error.Dict file fault) given = named_by given ≡ Some (bad_database schema (error.Dict file fault))
SaysOpen schema (error.BadCode file) given = named_by given ≡ Some (bad_database schema (error.BadCode file))
SaysOpen schema (error.RepeatedKey table) given = named_by given ≡ Some (bad_database schema (error.RepeatedKey table))
SaysOpen schema error.Memory given = given ≡ stop.Memory

-- the error names a table of so many, and no other cause for want of memory
abbrev pub NamesWithin : ℕ → OpenError → Type 0
NamesWithin count error.Store = Unit {0}
NamesWithin count (error.TooLong file) = Unit {0}
NamesWithin count (error.NoFile file) = Unit {0}
NamesWithin count (error.BadNow table) = table < count
NamesWithin count (error.Column file given) = given ≢ column.Memory
NamesWithin count (error.Length file) = Unit {0}
NamesWithin count (error.Dict file given) = given ≢ dictionary.Memory
NamesWithin count (error.BadCode file) = Unit {0}
NamesWithin count (error.RepeatedKey table) = table < count
NamesWithin count error.Memory = Unit {0}
