-- What a reader over a text in memory gives from now on.
use Rattle.std.specs.Prelude.{◌≡◌, ℕ, Bool, true, false, List, [], ◌∷◌, Some}
use Rattle.std.specs.Borrow.{Bor}
use Rattle.csv.specs.Reading.{Ready, reader_config, reader_state, reader_trim, source_of}
use Rattle.csv.specs.declared.reader.Reader.{Reader}
use Rattle.csv.specs.declared.reader.Trim.TheVariants as trim
use Rattle.table_import.specs.Records.{Record, config_of, records_left}

-- a reader over bytes in memory
abbrev pub TextReader : Type 0
TextReader = Reader (Bor (List ℕ))

-- the reader will give these records, one after the other
pub record Gives (separator : ℕ) (reader : TextReader) (given : List Record) : Type 0 where
  pub trim : reader_trim reader ≡ trim.None
  pub ready : Ready reader
  pub config : reader_config reader ≡ config_of separator
  pub left : List ℕ
  pub source : source_of (λ bytes. Some bytes.now) reader ≡ Some left
  pub records : given ≡ records_left (config_of separator) (reader_state reader) left

-- a read that gave the next of these records, or found that there is none
abbrev pub GaveNext : ℕ → List Record → Bool → Record → TextReader → Type 0
GaveNext separator [] found fields reader = found ≡ false
GaveNext separator (first ∷ rest) found fields reader = (found ≡ true) × (fields ≡ first) × Gives separator reader rest

-- there may be rows, which the reader will give, or there are none
abbrev pub GivesRows : ℕ → List Record → Bool → TextReader → Type 0
GivesRows separator rows true reader = Gives separator reader rows
GivesRows separator rows false reader = rows ≡ []
