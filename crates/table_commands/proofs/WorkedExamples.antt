-- The definitions at worked values.
use Rattle.std.proofs.Common.{false, ◌≡◌, ℕ, List, [], ◌∷◌, ◌++◌, Err, refl}
use Rattle.std.specs.Prelude.{Some, None, codes, if◌then◌else◌}
use Rattle.std.specs.Fmt.{digits}
use Rattle.std.specs.Str.{bytes_eq}
use Rattle.definitions_blocks.specs.Words.{word_bytes}
use Rattle.definitions_columns.specs.FileFaults.{bad_width}
use Rattle.stream_core.specs.Files.{Files}
use Rattle.stream_core.specs.Names.{now_file_name}
use Rattle.column_file.specs.declared.errors.ColumnError.TheVariants as column
use Rattle.catalog_core.specs.declared.errors.DictError.TheVariants as dictionary
use Rattle.catalog_core.specs.declared.errors.SchemaError.TheVariants as schema
use Rattle.catalog_core.specs.declared.schemas.Role.TheVariants.{Fact}
use Rattle.catalog_core.specs.declared.schemas.Schema.{Schema}
use Rattle.database_core.specs.NowFiles.{now_in}
use Rattle.database_core.specs.TableFiles.{slot_to_write}
use Rattle.database_core.specs.declared.errors.OpenError.TheVariants as error
use Rattle.query_text.specs.declared.text.TextError.TheVariants as text
use Rattle.query_bind.specs.declared.errors.BindError.TheVariants as binding
use Rattle.table_import.specs.declared.errors.ImportError.TheVariants as import
use Rattle.table_commands.specs.Databases.{schema_bytes, bad_schema, bad_database, found_in}
use Rattle.table_commands.specs.Importing.{bad_rows, imported_line}
use Rattle.table_commands.specs.Querying.{query_too_long, bad_text, bad_binding}
use Rattle.table_commands.specs.Refusals.{bad_file, fault_text, no_such_table}

a_fault_of_a_file : (bad_file (codes "t.a.b.col") (fault_text bad_width)).line ≡ codes "database: t.a.b.col: bad width\n"
a_fault_of_a_file = refl

abbrev five_rows_in_slot_a : List ℕ
five_rows_in_slot_a = codes "MNOWa" ++ 5 ∷ 0 ∷ 0 ∷ 0 ∷ 0 ∷ 0 ∷ 0 ∷ 0 ∷ []

a_now_file_is_read : now_in five_rows_in_slot_a ≡ Some (record { slot = 97; rows = 5 })
unfolding word_bytes
a_now_file_is_read = refl

a_cut_now_file_is_none : now_in (codes "MNOWa" ++ 5 ∷ 0 ∷ 0 ∷ 0 ∷ 0 ∷ 0 ∷ 0 ∷ []) ≡ None
unfolding word_bytes
a_cut_now_file_is_none = refl

-- a folder with one file, the now file of table `t`
abbrev folder : List ℕ → Files
folder bytes name = if bytes_eq name (now_file_name (codes "t")) then Some bytes else None

a_save_writes_the_other_slot : slot_to_write (folder five_rows_in_slot_a) (codes "t") ≡ 98
unfolding word_bytes
a_save_writes_the_other_slot = refl

a_save_writes_slot_a_after_slot_b : slot_to_write (folder (codes "MNOWb" ++ 5 ∷ 0 ∷ 0 ∷ 0 ∷ 0 ∷ 0 ∷ 0 ∷ 0 ∷ [])) (codes "t") ≡ 97
unfolding word_bytes
a_save_writes_slot_a_after_slot_b = refl

a_save_writes_slot_a_where_the_now_file_is_damaged : slot_to_write (folder (codes "MNOW")) (codes "t") ≡ 97
unfolding word_bytes
a_save_writes_slot_a_where_the_now_file_is_damaged = refl

a_save_writes_slot_a_of_a_new_table : slot_to_write (folder five_rows_in_slot_a) (codes "u") ≡ 97
unfolding word_bytes
a_save_writes_slot_a_of_a_new_table = refl

-- ---- the lines of `check`

no_schema_file_is_there : schema_bytes (folder five_rows_in_slot_a) ≡ Err (bad_file (codes "schema.toml") (codes "no file"))
no_schema_file_is_there = refl

a_text_that_is_no_toml : (bad_schema schema.Text).line ≡ codes "database: schema.toml: bad toml\n"
a_text_that_is_no_toml = refl

a_key_that_is_not_allowed : (bad_schema (schema.Shape 1 12)).line ≡ codes "database: schema.toml: shape 1 12\n"
unfolding digits
a_key_that_is_not_allowed = refl

a_name_that_stands_twice : (bad_schema (schema.Repeated (codes "a"))).line ≡ codes "database: schema.toml: repeated a\n"
a_name_that_stands_twice = refl

-- the schema with the one table `t` of no columns
abbrev one_table : Schema
one_table = record {
  tables =
      record { name = codes "t"; role = Fact; key = None; separator = 44; header = false; trailing = false; repeats = false; columns = [] }
      ∷ [];
}

a_table_without_its_now_file : (bad_database one_table (error.BadNow 0)).line ≡ codes "database: t.now: bad now\n"
a_table_without_its_now_file = refl

two_rows_of_one_key : (bad_database one_table (error.RepeatedKey 0)).line ≡ codes "database: t: repeated key\n"
two_rows_of_one_key = refl

a_fault_of_a_column_file : (bad_database one_table (error.Column (codes "t.a.b.col") (column.BadDirectory 3))).line ≡ codes "database: t.a.b.col: bad directory 3\n"
unfolding digits
a_fault_of_a_column_file = refl

a_fault_of_a_dictionary : (bad_database one_table (error.Dict (codes "t.a.b.dic") (dictionary.BadEntry 0))).line ≡ codes "database: t.a.b.dic: bad entry 0\n"
unfolding digits
a_fault_of_a_dictionary = refl

a_value_that_is_no_code : (bad_database one_table (error.BadCode (codes "t.a.b.col"))).line ≡ codes "database: t.a.b.col: bad code\n"
a_value_that_is_no_code = refl

no_table_has_the_name : found_in one_table (codes "u") ≡ Err no_such_table
no_table_has_the_name = refl

-- ---- the lines of `import`

a_row_of_other_fields : (bad_rows (import.FieldCount 1 3)).line ≡ codes "import: row 1: 3 fields\n"
unfolding digits
a_row_of_other_fields = refl

a_field_that_is_no_number : (bad_rows (import.BadNumber 1 2)).line ≡ codes "import: row 1 field 2: bad number\n"
unfolding digits
a_field_that_is_no_number = refl

a_row_of_an_earlier_key : (bad_rows (import.RepeatedKey 3)).line ≡ codes "import: row 3: repeated key\n"
unfolding digits
a_row_of_an_earlier_key = refl

the_closing_line : imported_line (record { name = codes "t"; role = Fact; key = None; separator = 44; header = false; trailing = false; repeats = false; columns = [] }) 4 ≡ codes "imported t 4 rows\n"
unfolding digits
the_closing_line = refl

-- ---- the lines of queries

a_query_of_too_many_bytes : query_too_long.line ≡ codes "query: too long\n"
a_query_of_too_many_bytes = refl

an_unfinished_text : (bad_text (text.Syntax 6)).line ≡ codes "query: syntax at 6\n"
unfolding digits
an_unfinished_text = refl

a_join_that_is_missing : (bad_binding (binding.JoinMissing 32)).line ≡ codes "query: join missing at 32\n"
unfolding digits
a_join_that_is_missing = refl
