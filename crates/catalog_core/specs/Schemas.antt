-- The schema of a text, or its first refusal, by cases on the untyped table that TOML reads from the text.
use Rattle.std.specs.Prelude.{◌≡◌, ◌⊎◌, ℕ, Bool, true, false, ◌&&◌, nat_le, if◌then◌else◌, List, [], ◌∷◌, ◌++◌, length, map, codes, Option, Some, None, option_map, ok_or, Result, Ok, Err, IsUtf8}
use Rattle.definitions_outcomes.specs.Computed.{and_then, bind, walk}
use Rattle.std.specs.List.{list_any, list_all, position, flat_map}
use Rattle.std.specs.Str.{bytes_eq}
use Rattle.stream_core.specs.Names.{is_name}
use Rattle.toml.specs.Data.{Data, Items, no_items, item, Members, no_members, member, get_member, as_str, as_bool, as_array, as_table}
use Rattle.toml.specs.Parse.{parse_document}
use Rattle.block_core.specs.declared.formats.Format.TheVariants.{Plain, Static, Dynamic, Runs, Delta1Dynamic, Delta16Dynamic, ReferenceDynamic, Delta1Runs}
use Rattle.block_core.specs.declared.formats.FormatChoice.{FormatChoice}
use Rattle.block_core.specs.declared.formats.FormatChoice.TheVariants.{Fixed, Auto}
use Rattle.catalog_core.specs.Texts.{Text}
use Rattle.catalog_core.specs.declared.schemas.Role.{Role}
use Rattle.catalog_core.specs.declared.schemas.Role.TheVariants.{Fact, Dimension}
use Rattle.catalog_core.specs.declared.schemas.Kind.{Kind}
use Rattle.catalog_core.specs.declared.schemas.Kind.TheVariants as kind
use Rattle.catalog_core.specs.declared.schemas.ColumnDef.{ColumnDef}
use Rattle.catalog_core.specs.declared.schemas.TableDef.{TableDef}
use Rattle.catalog_core.specs.declared.schemas.Schema.{Schema}
use Rattle.catalog_core.specs.declared.errors.SchemaError.{SchemaError}
use Rattle.catalog_core.specs.declared.errors.SchemaError.TheVariants as refusal

-- how many tables a schema has at most, and how many columns a table
abbrev pub max_tables : ℕ
max_tables = 64

abbrev pub max_columns : ℕ
max_columns = 256

-- ---- what a key holds

-- what the word means, in a list of words
abbrev pub meaning : {A : Type 0} → List (Text × A) → Text → Option A
meaning [] text = None
meaning (entry ∷ rest) text = if bytes_eq entry.0 text then Some entry.1 else meaning rest text

-- what a required key holds, and what an optional key holds, or the default
abbrev pub required : {A : Type 0} → (Data → Option A) → Option Data → Option A
required form None = None
required form (Some held) = form held

abbrev pub optional : {A : Type 0} → A → (Data → Option A) → Option Data → Option A
optional default form None = Some default
optional default form (Some held) = form held

-- a text that is a name
abbrev pub name_in : Data → Option Text
name_in held = and_then (as_str held) (λ text. if is_name text then Some text else None)

abbrev pub one_of : {A : Type 0} → List (Text × A) → Data → Option A
one_of words held = and_then (as_str held) (meaning words)

abbrev pub role_words : List (Text × Role)
role_words = (codes "fact", Fact) ∷ (codes "dimension", Dimension) ∷ []

abbrev pub kind_words : List (Text × Kind)
kind_words = (codes "number", kind.Number) ∷ (codes "text", kind.Text) ∷ []

abbrev pub separator_words : List (Text × ℕ)
separator_words = (codes ",", 44) ∷ (codes "|", 124) ∷ (codes ";", 59) ∷ (codes "\t", 9) ∷ []

abbrev pub format_words : List (Text × FormatChoice)
format_words =
    (codes "plain", Fixed Plain) ∷ (codes "static", Fixed Static) ∷ (codes "dynamic", Fixed Dynamic) ∷ (codes "runs", Fixed Runs)
    ∷ (codes "delta1+dynamic", Fixed Delta1Dynamic) ∷ (codes "delta16+dynamic", Fixed Delta16Dynamic)
    ∷ (codes "reference+dynamic", Fixed ReferenceDynamic) ∷ (codes "delta1+runs", Fixed Delta1Runs) ∷ (codes "auto", Auto) ∷ []

-- the keys of a table, and the items of an array
abbrev pub keys_of : Members → List Text
keys_of no_members = []
keys_of (member key held rest) = key ∷ keys_of rest

abbrev pub list_of : Items → List Data
list_of no_items = []
list_of (item held rest) = held ∷ list_of rest

-- every key is one of these
abbrev pub has_only : List Text → Members → Bool
has_only known keys = list_all (λ key. list_any (λ word. bytes_eq word key) known) (keys_of keys)

-- an array of 1 to `most` items
abbrev pub is_count : ℕ → List Data → Bool
is_count most items = nat_le 1 (length items) && nat_le (length items) most

abbrev pub items_in : ℕ → Data → Option (List Data)
items_in most held = and_then (as_array held) (λ items. if is_count most (list_of items) then Some (list_of items) else None)

-- ---- a column

abbrev pub column_keys : List Text
column_keys = codes "name" ∷ codes "kind" ∷ codes "format" ∷ []

abbrev pub column_in : Members → Option ColumnDef
column_in keys =
    if has_only column_keys keys
    then and_then (required name_in (get_member (codes "name") keys)) (λ name.
    and_then (required (one_of kind_words) (get_member (codes "kind") keys)) (λ kind.
    and_then (optional (Fixed Plain) (one_of format_words) (get_member (codes "format") keys)) (λ format.
    Some (record { name = name; kind = kind; format = format }))))
    else None

abbrev pub column_of : Data → Option ColumnDef
column_of held = and_then (as_table held) column_in

-- the columns of a table in order, counted from 1
abbrev pub numbered_column : ℕ → ℕ → Data → Result ColumnDef SchemaError
numbered_column number place held = ok_or (column_of held) (refusal.Shape number place)

abbrev pub columns_of : ℕ → List Data → Result (List ColumnDef) SchemaError
columns_of number = walk (numbered_column number) 1

-- ---- a table

abbrev pub table_keys : List Text
table_keys =
    codes "name" ∷ codes "role" ∷ codes "key" ∷ codes "separator" ∷ codes "header" ∷ codes "trailing" ∷ codes "repeats" ∷ codes "column" ∷ []

-- a table's own keys
pub record Own : Type 0 where
  pub name : Text
  pub role : Role
  pub key : Option Text
  pub separator : ℕ
  pub header : Bool
  pub trailing : Bool
  pub repeats : Bool
  pub columns : List Data

-- a dimension names its key, and a fact table has none
abbrev pub key_in : Role → Option Data → Option (Option Text)
key_in Dimension held = option_map (λ text. Some text) (required as_str held)
key_in Fact None = Some None
key_in Fact (Some held) = None

-- only a dimension may say whether keys repeat
abbrev pub repeats_in : Role → Option Data → Option Bool
repeats_in Dimension held = optional false as_bool held
repeats_in Fact None = Some false
repeats_in Fact (Some held) = None

abbrev pub own_in : Members → Option Own
own_in keys =
    if has_only table_keys keys
    then and_then (required name_in (get_member (codes "name") keys)) (λ name.
    and_then (required (one_of role_words) (get_member (codes "role") keys)) (λ role.
    and_then (key_in role (get_member (codes "key") keys)) (λ key.
    and_then (optional 44 (one_of separator_words) (get_member (codes "separator") keys)) (λ separator.
    and_then (optional false as_bool (get_member (codes "header") keys)) (λ header.
    and_then (optional false as_bool (get_member (codes "trailing") keys)) (λ trailing.
    and_then (repeats_in role (get_member (codes "repeats") keys)) (λ repeats.
    and_then (required (items_in max_columns) (get_member (codes "column") keys)) (λ columns.
    Some (record { name = name; role = role; key = key; separator = separator; header = header; trailing = trailing; repeats = repeats; columns = columns })))))))))
    else None

abbrev pub own_of : Data → Option Own
own_of held = and_then (as_table held) own_in

-- a number column of this name
abbrev pub is_number : Kind → Bool
is_number kind.Number = true
is_number kind.Text = false

abbrev pub is_key_column : Text → ColumnDef → Bool
is_key_column name column = bytes_eq column.name name && is_number column.kind

-- the place of the key, where it names a number column
abbrev pub key_place : Option Text → List ColumnDef → Option (Option ℕ)
key_place None columns = Some None
key_place (Some name) columns = option_map (λ place. Some place) (position (is_key_column name) columns)

abbrev pub with_columns : Own → Option ℕ → List ColumnDef → TableDef
with_columns own key columns = record {
  name = own.name;
  role = own.role;
  key = key;
  separator = own.separator;
  header = own.header;
  trailing = own.trailing;
  repeats = own.repeats;
  columns = columns;
}

-- a table: its own keys, its columns in order, and then its key
abbrev pub table_of : ℕ → Data → Result TableDef SchemaError
table_of number held =
    bind (ok_or (own_of held) (refusal.Shape number 0)) (λ own.
    bind (columns_of number own.columns) (λ columns.
    bind (ok_or (key_place own.key columns) (refusal.Shape number 0)) (λ key.
    Ok (with_columns own key columns))))

abbrev pub tables_of : List Data → Result (List TableDef) SchemaError
tables_of = walk table_of 1

-- ---- the schema

abbrev pub top_keys : List Text
top_keys = codes "table" ∷ []

abbrev pub top_in : Members → Option (List Data)
top_in keys = if has_only top_keys keys then required (items_in max_tables) (get_member (codes "table") keys) else None

-- the first name that equals an earlier one
abbrev pub first_repeated : List Text → List Text → Option Text
first_repeated earlier [] = None
first_repeated earlier (name ∷ rest) =
    if list_any (λ other. bytes_eq other name) earlier then Some name else first_repeated (earlier ++ name ∷ []) rest

abbrev pub table_names : List TableDef → List Text
table_names tables = map (λ one. one.name) tables

abbrev pub names_in : TableDef → List Text
names_in one = map (λ column. column.name) one.columns

abbrev pub column_names : List TableDef → List Text
column_names tables = flat_map names_in tables

abbrev pub distinct_or : Option Text → Result (Unit {0}) SchemaError
distinct_or None = Ok tt
distinct_or (Some name) = Err (refusal.Repeated name)

abbrev pub distinct : List Text → Result (Unit {0}) SchemaError
distinct names = distinct_or (first_repeated [] names)

abbrev pub schema_in : Members → Result Schema SchemaError
schema_in keys =
    bind (ok_or (top_in keys) (refusal.Shape 0 0)) (λ entries.
    bind (tables_of entries) (λ tables.
    bind (distinct (table_names tables)) (λ _.
    bind (distinct (column_names tables)) (λ _.
    Ok (record { tables = tables })))))

-- the bytes are a text that TOML reads as this table
pub record IsTable (bytes : List ℕ) (keys : Members) : Type 0 where
  pub text : IsUtf8 bytes
  pub table : parse_document bytes ≡ Some keys

-- the bytes are a table that gives the answer, or they are no table
abbrev pub SchemaOf : List ℕ → Result Schema SchemaError → Type 0
SchemaOf bytes answer =
    ((keys : Members) × IsTable bytes keys × (answer ≡ schema_in keys))
    ⊎ (((keys : Members) → IsTable bytes keys → ⊥) × (answer ≡ Err refusal.Text))

-- bytes have one answer at most
abbrev pub OneSchema : Type 0
OneSchema = (bytes : List ℕ) (answer other : Result Schema SchemaError) → SchemaOf bytes answer → SchemaOf bytes other → answer ≡ other
