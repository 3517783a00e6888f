-- The definitions at worked values.
use Rattle.std.proofs.Common.{◌≡◌, ◌++◌, refl, true, false, [], ◌∷◌, ℕ, Some, None, Ok, Err, Option, Result}
use Rattle.std.specs.Prelude.{codes, option_map}
use Rattle.block_core.specs.declared.formats.Format.TheVariants.{Plain, Delta1Runs}
use Rattle.block_core.specs.declared.formats.FormatChoice.TheVariants.{Fixed, Auto}
use Rattle.toml.specs.Parse.{parse_document}
use Rattle.toml.proofs.OnLiterals.{toml_on_literals}
use Rattle.catalog_core.specs.Texts.{Text}
use Rattle.catalog_core.specs.Schemas.{meaning, separator_words, format_words, role_words, first_repeated, key_place, schema_in}
use Rattle.catalog_core.specs.declared.schemas.Role.TheVariants.{Fact, Dimension}
use Rattle.catalog_core.specs.declared.schemas.Kind.TheVariants as kind
use Rattle.catalog_core.specs.declared.schemas.ColumnDef.{ColumnDef}
use Rattle.catalog_core.specs.declared.schemas.Schema.{Schema}
use Rattle.catalog_core.specs.declared.errors.SchemaError.{SchemaError}
use Rattle.catalog_core.specs.declared.errors.SchemaError.TheVariants as refusal

-- ---- words

tab : meaning separator_words (9 ∷ []) ≡ Some 9
tab = refl

two_separators : meaning separator_words (codes ",,") ≡ None
two_separators = refl

cascade : meaning format_words (codes "delta1+runs") ≡ Some (Fixed Delta1Runs)
cascade = refl

least_format : meaning format_words (codes "auto") ≡ Some Auto
least_format = refl

capital_role : meaning role_words (codes "Fact") ≡ None
capital_role = refl

-- ---- repeated names

-- the second name is the first that equals an earlier one, though the first name also stands twice
first_of_two : first_repeated [] (codes "a" ∷ codes "b" ∷ codes "b" ∷ codes "a" ∷ []) ≡ Some (codes "b")
first_of_two = refl

none_repeated : first_repeated [] (codes "a" ∷ codes "b" ∷ codes "ab" ∷ []) ≡ None
none_repeated = refl

-- ---- a key's place

number_column : Text → ColumnDef
number_column name = record { name = name; kind = kind.Number; format = Fixed Plain }

text_column : Text → ColumnDef
text_column name = record { name = name; kind = kind.Text; format = Fixed Plain }

second_column : key_place (Some (codes "k")) (text_column (codes "t") ∷ number_column (codes "k") ∷ []) ≡ Some (Some 1)
unfolding number_column text_column
second_column = refl

-- a text column is no key, but one of the same name after it is
text_before : key_place (Some (codes "k")) (text_column (codes "k") ∷ number_column (codes "k") ∷ []) ≡ Some (Some 1)
unfolding number_column text_column
text_before = refl

text_alone : key_place (Some (codes "k")) (text_column (codes "k") ∷ []) ≡ None
unfolding text_column
text_alone = refl

no_key : key_place None (text_column (codes "k") ∷ []) ≡ Some None
unfolding text_column
no_key = refl

-- ---- documents

answer_of : Text → Option (Result Schema SchemaError)
answer_of document = option_map schema_in (parse_document document)

sales : Text
sales = codes "[[table]]\nname = \"sales\"\nrole = \"fact\"\n[[table.column]]\nname = \"amount\"\nkind = \"number\"\n"

a_fact_table : answer_of sales ≡ Some (Ok (record {
  tables = record {
    name = codes "sales";
    role = Fact;
    key = None;
    separator = 44;
    header = false;
    trailing = false;
    repeats = false;
    columns = number_column (codes "amount") ∷ [];
  } ∷ [];
}))
unfolding answer_of sales number_column toml_on_literals
a_fact_table = refl

-- a column, and a table with its own keys and its columns
column : Text → Text → Text
column name kind = codes "{name = \"" ++ name ++ codes "\", kind = \"" ++ kind ++ codes "\"}"

entry : Text → Text → Text
entry keys columns = codes "{" ++ keys ++ codes ", column = [" ++ columns ++ codes "]}"

tables : Text → Text
tables entries = codes "table = [" ++ entries ++ codes "]\n"

fact : Text
fact = codes "name = \"t\", role = \"fact\""

dates : Text
dates = codes "name = \"dates\", role = \"dimension\", key = \"day\", separator = \"\\t\", header = true, trailing = true, repeats = true"

a_dimension : answer_of (tables (entry dates (column (codes "season") (codes "text") ++ codes ", " ++ column (codes "day") (codes "number"))))
    ≡ Some (Ok (record {
      tables = record {
        name = codes "dates";
        role = Dimension;
        key = Some 1;
        separator = 9;
        header = true;
        trailing = true;
        repeats = true;
        columns = text_column (codes "season") ∷ number_column (codes "day") ∷ [];
      } ∷ [];
    }))
unfolding answer_of tables entry dates column number_column text_column toml_on_literals
a_dimension = refl

-- the answer is that the shape is wrong there
IsShape : ℕ → ℕ → Text → Type 0
IsShape number place document = answer_of document ≡ Some (Err (refusal.Shape number place))

no_toml : parse_document (codes "table = [") ≡ None
unfolding toml_on_literals
no_toml = refl

nothing_there : IsShape 0 0 (codes "")
unfolding IsShape answer_of toml_on_literals
nothing_there = refl

no_tables : IsShape 0 0 (tables (codes ""))
unfolding IsShape answer_of tables toml_on_literals
no_tables = refl

other_key_at_the_top : IsShape 0 0 (tables (entry fact (column (codes "a") (codes "number"))) ++ codes "other = 1\n")
unfolding IsShape answer_of tables entry fact column toml_on_literals
other_key_at_the_top = refl

-- an entry that is no table is itself at fault, and so is a column
table_is_a_number : IsShape 1 0 (tables (codes "1"))
unfolding IsShape answer_of tables toml_on_literals
table_is_a_number = refl

column_is_a_number : IsShape 1 1 (tables (entry fact (codes "1")))
unfolding IsShape answer_of tables entry fact toml_on_literals
column_is_a_number = refl

no_columns : IsShape 1 0 (tables (entry fact (codes "")))
unfolding IsShape answer_of tables entry fact toml_on_literals
no_columns = refl

unknown_kind : IsShape 1 2 (tables (entry fact (column (codes "a") (codes "number") ++ codes ", " ++ column (codes "b") (codes "numbers"))))
unfolding IsShape answer_of tables entry fact column toml_on_literals
unknown_kind = refl

-- a fact table says nothing of a key or of keys that repeat
fact_with_a_key : IsShape 1 0 (tables (entry (fact ++ codes ", key = \"a\"") (column (codes "a") (codes "number"))))
unfolding IsShape answer_of tables entry fact column toml_on_literals
fact_with_a_key = refl

fact_with_repeats : IsShape 1 0 (tables (entry (fact ++ codes ", repeats = false") (column (codes "a") (codes "number"))))
unfolding IsShape answer_of tables entry fact column toml_on_literals
fact_with_repeats = refl

-- a key that is no string is found before the columns, and one that names no number column after them
dimension : Text → Text
dimension key = codes "name = \"d\", role = \"dimension\", key = " ++ key

key_before_columns : IsShape 1 0 (tables (entry (dimension (codes "1")) (codes "1")))
unfolding IsShape answer_of tables entry dimension toml_on_literals
key_before_columns = refl

columns_before_key : IsShape 1 1 (tables (entry (dimension (codes "\"a\"")) (codes "1")))
unfolding IsShape answer_of tables entry dimension toml_on_literals
columns_before_key = refl

key_of_texts : IsShape 1 0 (tables (entry (dimension (codes "\"a\"")) (column (codes "a") (codes "text"))))
unfolding IsShape answer_of tables entry dimension column toml_on_literals
key_of_texts = refl

-- names repeat over all tables, tables before columns, and only where no shape is wrong
IsRepeated : Text → Text → Type 0
IsRepeated name document = answer_of document ≡ Some (Err (refusal.Repeated name))

column_twice : IsRepeated (codes "a") (tables (entry fact (column (codes "a") (codes "number")) ++ codes ", " ++ entry (codes "name = \"u\", role = \"fact\"") (column (codes "a") (codes "text"))))
unfolding IsRepeated answer_of tables entry fact column toml_on_literals
column_twice = refl

table_before_column : IsRepeated (codes "t") (tables (entry fact (column (codes "a") (codes "number")) ++ codes ", " ++ entry fact (column (codes "a") (codes "number"))))
unfolding IsRepeated answer_of tables entry fact column toml_on_literals
table_before_column = refl

shape_before_repeats : IsShape 2 1 (tables (entry fact (column (codes "a") (codes "number")) ++ codes ", " ++ entry fact (codes "1")))
unfolding IsShape answer_of tables entry fact column toml_on_literals
shape_before_repeats = refl
