-- What a command refuses, with the line that says so.
use Rattle.std.specs.Prelude.{ℕ, nat_le, List, ◌++◌, length, codes, decimal, Result, Ok, Err, ok_or, if◌then◌else◌}
use Rattle.definitions_columns.specs.FileFaults.{FileFault, bad_header, bad_directory, bad_block, bad_width, bad_tail}
use Rattle.definitions_outcomes.specs.Computed.{bind}
use Rattle.stream_core.specs.Files.{Files}

-- the kinds of causes, each with an exit status of its own
pub data Kind : Type 0 where
  query_text : Kind
  database : Kind
  sum : Kind
  import_text : Kind

abbrev pub status_of_kind : Kind → ℕ
status_of_kind query_text = 1
status_of_kind database = 4
status_of_kind sum = 5
status_of_kind import_text = 7

-- a refusal: its kind, and the line that is written
pub record Refusal : Type 0 where
  pub kind : Kind
  pub line : List ℕ

-- the refusals
abbrev pub bad_query : Refusal
bad_query = record { kind = query_text; line = codes "query: not built\n" }

-- a query, of which this is said
abbrev pub refused_query : List ℕ → Refusal
refused_query what = record { kind = query_text; line = codes "query: " ++ what ++ codes "\n" }

-- a file that is absent or out of form
abbrev pub bad_file : List ℕ → List ℕ → Refusal
bad_file name what = record { kind = database; line = codes "database: " ++ name ++ codes ": " ++ what ++ codes "\n" }

-- no table of the schema has the name
abbrev pub no_such_table : Refusal
no_such_table = record { kind = database; line = codes "database: no such table\n" }

abbrev pub sum_too_wide : Refusal
sum_too_wide = record { kind = sum; line = codes "sum 1 operand 1 group 1: too wide\n" }

-- a text that is imported, of which this is said
abbrev pub bad_import : List ℕ → Refusal
bad_import what = record { kind = import_text; line = codes "import: " ++ what ++ codes "\n" }

-- what is written for words that denote no command
abbrev pub usage_line : List ℕ
usage_line = codes "usage: see morphq help\n"

-- bytes that are not too long
abbrev pub limited : ℕ → Refusal → List ℕ → Result (List ℕ) Refusal
limited limit refusal bytes = if nat_le (length bytes) limit then Ok bytes else Err refusal

-- the bytes of a file, and of one that is not too long
abbrev pub file_of : Files → List ℕ → Result (List ℕ) Refusal
file_of files name = ok_or (files name) (bad_file name (codes "no file"))

abbrev pub bytes_of : ℕ → Files → List ℕ → Result (List ℕ) Refusal
bytes_of limit files name = bind (file_of files name) (limited limit (bad_file name (codes "too long")))

-- what is said of a fault of a column file
abbrev pub fault_text : FileFault → List ℕ
fault_text bad_header = codes "bad header"
fault_text (bad_directory block) = codes "bad directory " ++ decimal block
fault_text (bad_block block) = codes "bad block " ++ decimal block
fault_text bad_width = codes "bad width"
fault_text bad_tail = codes "bad tail"
