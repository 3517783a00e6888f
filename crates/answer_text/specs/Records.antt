-- What a writer of CSV records has written.
use Rattle.std.specs.Prelude.{◌≡◌, ℕ, ◌^◌, ◌-◌, ◌==◌, ◌||◌, ◌&&◌, not, min, List, [], ◌++◌, length}
use Rattle.csv.specs.Writing.{default_writer, with_delimiter, row_body, row_text, is_blank, writer_setup, writer_under, writer_pending, fields_written, has_written}
use Rattle.csv.specs.declared.writer.WriterBuilder.{WriterBuilder}
use Rattle.answer_text.specs.declared.records.Records.{Records}

-- csv's own way, with this byte between fields
abbrev pub setup_of : ℕ → WriterBuilder
setup_of separator = with_delimiter default_writer separator

-- what was written so far: what the writer handed over, and what it still holds
abbrev pub bytes_of : Records → List ℕ
bytes_of records = (writer_under records.out).items ++ writer_pending records.out

-- the text of whole records, and these fields of the next one
pub record HasWritten (separator : ℕ) (text : List ℕ) (fields : List (List ℕ)) (records : Records) : Type 0 where
  pub setup : writer_setup records.out ≡ setup_of separator
  pub bytes : bytes_of records ≡ text ++ row_body (setup_of separator) fields
  pub count : fields_written records.out ≡ min (length fields) (2 ^ 64 - 1)
  pub blank : is_blank (setup_of separator) fields ≡ (not (has_written records.out) && ((length fields == 0) || (length fields == 1)))

-- fields are written behind those that were there
abbrev pub AddsFields : List (List ℕ) → Records → Records → Type 0
AddsFields fields old new =
    (separator : ℕ) (text : List ℕ) (before : List (List ℕ)) → HasWritten separator text before old → HasWritten separator text (before ++ fields) new

-- whole records are written, whose text is known by the separator
abbrev pub AddsText : (ℕ → List ℕ) → Records → Records → Type 0
AddsText more old new = (separator : ℕ) (text : List ℕ) → HasWritten separator text [] old → HasWritten separator (text ++ more separator) [] new

-- the fields become a record
abbrev pub EndsRecord : Records → Records → Type 0
EndsRecord old new =
    (separator : ℕ) (text : List ℕ) (fields : List (List ℕ)) → HasWritten separator text fields old → HasWritten separator (text ++ row_text (setup_of separator) fields) [] new

-- all that was written
abbrev pub IsTextOf : List ℕ → Records → Type 0
IsTextOf bytes records = (separator : ℕ) (text : List ℕ) → HasWritten separator text [] records → bytes ≡ text
