-- The schema of a database, a table of it by its name, and the tables that are needed, or the first refusal.
use Rattle.std.specs.Prelude.{ℕ, false, List, [], ◌++◌, codes, decimal, Option, Some, None, option_map, unwrap_or, ok_or, slice_index_or, IsSome, Result, Ok, Err}
use Rattle.definitions_outcomes.specs.Outcomes.{Outcomes, Gives, OneOrFault, Then}
use Rattle.stream_core.specs.Files.{Files}
use Rattle.stream_core.specs.Names.{now_file_name, schema_file_name}
use Rattle.column_file.specs.Faults.{fault_of}
use Rattle.column_file.specs.declared.errors.ColumnError.{ColumnError}
use Rattle.catalog_core.specs.Columns.{table_at, table_named}
use Rattle.catalog_core.specs.Schemas.{SchemaOf}
use Rattle.catalog_core.specs.declared.columns.Needs.{Needs}
use Rattle.catalog_core.specs.declared.errors.DictError.{DictError}
use Rattle.catalog_core.specs.declared.errors.DictError.TheVariants as dictionary
use Rattle.catalog_core.specs.declared.errors.SchemaError.{SchemaError}
use Rattle.catalog_core.specs.declared.errors.SchemaError.TheVariants as schema
use Rattle.catalog_core.specs.declared.schemas.Role.TheVariants.{Fact}
use Rattle.catalog_core.specs.declared.schemas.TableDef.{TableDef}
use Rattle.catalog_core.specs.declared.schemas.Schema.{Schema}
use Rattle.table_core.specs.Tables.{TableState}
use Rattle.database_core.specs.Opening.{Opened}
use Rattle.database_core.specs.declared.errors.OpenError.{OpenError}
use Rattle.database_core.specs.declared.errors.OpenError.TheVariants as error
use Rattle.table_commands.specs.declared.databases.Found.{Found}
use Rattle.table_commands.specs.Refusals.{Refusal, bad_file, bytes_of, fault_text, no_such_table}

-- how many bytes are read of the schema file at most
abbrev pub max_schema_file : ℕ
max_schema_file = 1048576

-- the bytes of the schema file
abbrev pub schema_bytes : Files → Result (List ℕ) Refusal
schema_bytes files = bytes_of max_schema_file files schema_file_name

-- What is said of an error. Nothing is said of want of memory and of a failed call, since no bytes and no files give them: see
-- the laws below.

-- of a text that is no schema: tables and columns count from 1, and 0 is none
abbrev pub schema_text : SchemaError → Option (List ℕ)
schema_text schema.Text = Some (codes "bad toml")
schema_text (schema.Shape table column) = Some (codes "shape " ++ decimal table ++ codes " " ++ decimal column)
schema_text (schema.Repeated name) = Some (codes "repeated " ++ name)
schema_text schema.Memory = None

-- the line for a file, or for a table, of which this is said
abbrev pub said_of : List ℕ → Option (List ℕ) → Refusal
said_of name what = bad_file name (unwrap_or what [])

abbrev pub bad_schema : SchemaError → Refusal
bad_schema refusal = said_of schema_file_name (schema_text refusal)

-- of a column file, and of a dictionary file
abbrev pub column_text : ColumnError → Option (List ℕ)
column_text given = option_map fault_text (fault_of given)

abbrev pub dictionary_text : DictError → Option (List ℕ)
dictionary_text dictionary.BadHeader = Some (codes "bad header")
dictionary_text (dictionary.BadEntry entry) = Some (codes "bad entry " ++ decimal entry)
dictionary_text dictionary.Trailing = Some (codes "trailing")
dictionary_text dictionary.Memory = None

-- the name of a table by its number in the schema
abbrev pub table_name : Schema → ℕ → List ℕ
table_name schema table = unwrap_or (option_map (λ one. one.name) (table_at schema table)) []

-- of a database that does not open
abbrev pub bad_database : Schema → OpenError → Refusal
bad_database schema error.Store = said_of [] None
bad_database schema (error.TooLong file) = bad_file file (codes "too long")
bad_database schema (error.NoFile file) = bad_file file (codes "no file")
bad_database schema (error.BadNow table) = bad_file (now_file_name (table_name schema table)) (codes "bad now")
bad_database schema (error.Column file fault) = said_of file (column_text fault)
bad_database schema (error.Length file) = bad_file file (codes "length")
bad_database schema (error.Dict file fault) = said_of file (dictionary_text fault)
bad_database schema (error.BadCode file) = bad_file file (codes "bad code")
bad_database schema (error.RepeatedKey table) = bad_file (table_name schema table) (codes "repeated key")
bad_database schema error.Memory = said_of [] None

-- the schema of a text, or its first refusal
abbrev pub SchemaIn : List ℕ → Outcomes Schema Refusal
SchemaIn bytes = OneOrFault (λ schema. SchemaOf bytes (Ok schema)) (λ refusal. SchemaOf bytes (Err refusal)) bad_schema

-- the schema of a database
abbrev pub SchemaStep : Files → Outcomes Schema Refusal
SchemaStep files = Then (Gives (schema_bytes files)) SchemaIn

-- the table of a name in a schema
abbrev pub found_in : Schema → List ℕ → Result Found Refusal
found_in schema name = ok_or (option_map (λ table. record { schema = schema; table = table }) (table_named schema name)) no_such_table

-- the definition of a table that was found; it has no columns if there is no such table
abbrev pub no_table : TableDef
no_table = record { name = []; role = Fact; key = None; separator = 44; header = false; trailing = false; repeats = false; columns = [] }

abbrev pub definition_of : Found → TableDef
definition_of found = slice_index_or found.schema.tables found.table no_table

-- the table of a name in a database
abbrev pub TableStep : Files → List ℕ → Outcomes Found Refusal
TableStep files name = Then (SchemaStep files) (λ schema. Gives (found_in schema name))

-- the needed tables and columns, or the first refusal
abbrev pub OpenedIn : Files → Schema → Needs → Outcomes (List TableState) Refusal
OpenedIn files schema needs =
    OneOrFault (λ tables. Opened files schema needs (Ok tables)) (λ given. Opened files schema needs (Err given)) (bad_database schema)

-- Laws.

-- something is said of an error of the opening
abbrev pub IsSaid : OpenError → Type 0
IsSaid error.Store = ⊥
IsSaid (error.TooLong file) = Unit {0}
IsSaid (error.NoFile file) = Unit {0}
IsSaid (error.BadNow table) = Unit {0}
IsSaid (error.Column file fault) = IsSome (column_text fault)
IsSaid (error.Length file) = Unit {0}
IsSaid (error.Dict file fault) = IsSome (dictionary_text fault)
IsSaid (error.BadCode file) = Unit {0}
IsSaid (error.RepeatedKey table) = Unit {0}
IsSaid error.Memory = ⊥

-- something is said of each refusal of a schema's text, and of the opening
abbrev pub SchemaRefusalsAreSaid : Type 0
SchemaRefusalsAreSaid = (bytes : List ℕ) (refusal : SchemaError) → SchemaOf bytes (Err refusal) → IsSome (schema_text refusal)

abbrev pub OpeningRefusalsAreSaid : Type 0
OpeningRefusalsAreSaid = (files : Files) (schema : Schema) (needs : Needs) (given : OpenError) → Opened files schema needs (Err given) → IsSaid given
