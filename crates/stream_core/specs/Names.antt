-- Names of tables and columns, and the names of a database's files.
use Rattle.std.specs.Prelude.{ℕ, Bool, false, ◌&&◌, ◌||◌, not, ◌==◌, nat_le, List, [], ◌∷◌, ◌++◌, length, codes, IsTrue}
use Rattle.std.specs.List.{list_any, list_all}
use Rattle.std.specs.Char.{is_ascii_lowercase, is_ascii_digit}
use Rattle.std.specs.Str.{bytes_eq}

-- how many bytes a name and a file's name have at most
abbrev pub max_name : ℕ
max_name = 31

abbrev pub max_file_name : ℕ
max_file_name = 72

-- the words of the query language, which are no names
abbrev pub keywords : List (List ℕ)
keywords =
    codes "select" ∷ codes "from" ∷ codes "where" ∷ codes "and" ∷ codes "or" ∷ codes "between" ∷ codes "in" ∷ codes "group"
    ∷ codes "order" ∷ codes "by" ∷ codes "asc" ∷ codes "desc" ∷ codes "sum" ∷ codes "as" ∷ []

abbrev pub is_keyword : List ℕ → Bool
is_keyword word = list_any (λ keyword. bytes_eq keyword word) keywords

-- a letter, a digit or `_`
abbrev pub is_name_byte : ℕ → Bool
is_name_byte byte = is_ascii_lowercase byte || is_ascii_digit byte || byte == 95

-- whether the first byte is a lower-case letter
abbrev pub begins_with_letter : List ℕ → Bool
begins_with_letter [] = false
begins_with_letter (byte ∷ bytes) = is_ascii_lowercase byte

-- whether a text is a name: 1 to 31 lower-case letters, digits and `_`, a letter first, and no keyword
abbrev pub is_name : List ℕ → Bool
is_name text = begins_with_letter text && list_all is_name_byte text && nat_le (length text) max_name && not (is_keyword text)

abbrev pub IsName : List ℕ → Type 0
IsName text = IsTrue (is_name text)

-- `TABLE.now`
abbrev pub now_file_name : List ℕ → List ℕ
now_file_name table = table ++ codes ".now"

-- `TABLE.SLOT.COLUMN.col`
abbrev pub column_file_name : List ℕ → ℕ → List ℕ → List ℕ
column_file_name table slot column = table ++ codes "." ++ (slot ∷ []) ++ codes "." ++ column ++ codes ".col"

-- `TABLE.SLOT.COLUMN.dic`
abbrev pub dictionary_file_name : List ℕ → ℕ → List ℕ → List ℕ
dictionary_file_name table slot column = table ++ codes "." ++ (slot ∷ []) ++ codes "." ++ column ++ codes ".dic"

-- the file of the schema
abbrev pub schema_file_name : List ℕ
schema_file_name = codes "schema.toml"

-- `NAME.strategy`
abbrev pub strategy_file_name : List ℕ → List ℕ
strategy_file_name name = name ++ codes ".strategy"
