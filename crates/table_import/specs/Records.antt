-- The records of a text, as csv reads them.
use Rattle.std.specs.Prelude.{ℕ, ◌+◌, Bool, if◌then◌else◌, List, length, drop}
use Rattle.csv.specs.Reading.{default_config, records_from, strip_bom}
use Rattle.csv.specs.declared.parser.Config.{Config}
use Rattle.csv.specs.declared.parser.State.{State}
use Rattle.csv.specs.declared.parser.State.TheVariants.{StartRecord}
use Rattle.catalog_core.specs.Texts.{Text}

-- a record is its fields
abbrev pub Record : Type 0
Record = List Text

-- how csv reads the records of a table with this separator
abbrev pub config_of : ℕ → Config
config_of separator = record default_config { delimiter = separator }

-- the records that reading gives one after the other, from a state and the bytes that are left
abbrev pub records_left : Config → State → List ℕ → List Record
records_left config state left = records_from config (length left + 1) state left

-- the records of a text
abbrev pub records_in : ℕ → List ℕ → List Record
records_in separator text = records_left (config_of separator) StartRecord (strip_bom text)

-- the records that are rows: all, or all but the first, which has the names of the columns
abbrev pub without_header : Bool → List Record → List Record
without_header header records = if header then drop 1 records else records
