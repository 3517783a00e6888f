-- What an error says of the bytes.
use Rattle.std.specs.Prelude.{◌≡◌, ℕ, List, Option, Some, None, MatchOption}
use Rattle.definitions_columns.specs.ColumnFiles.{first, IsFileOf}
use Rattle.definitions_columns.specs.FileFaults.{FileFault, bad_header, bad_directory, bad_block, bad_width, bad_tail, HasFileFault}
use Rattle.block_core.specs.declared.formats.Format.{Format}
use Rattle.block_core.specs.Formats.{format_of}
use Rattle.column_file.specs.declared.errors.ColumnError.{ColumnError}
use Rattle.column_file.specs.declared.errors.ColumnError.TheVariants as error

-- the fault that an error names: none for want of memory
abbrev pub fault_of : ColumnError → Option FileFault
fault_of error.BadHeader = Some bad_header
fault_of (error.BadDirectory block) = Some (bad_directory block)
fault_of (error.BadBlock block) = Some (bad_block block)
fault_of error.BadWidth = Some bad_width
fault_of error.BadTail = Some bad_tail
fault_of error.Memory = None

-- the bytes are a file of the first version
abbrev pub IsFirstFile : List ℕ → Type 0
IsFirstFile bytes = (format : Format) × (values : List ℕ) × IsFileOf first (format_of format) values bytes

-- the bytes have the fault that the error names, and memory runs out only for a file of the first version
abbrev pub Says : List ℕ → ColumnError → Type 0
Says bytes given = MatchOption (fault_of given) (IsFirstFile bytes) (HasFileFault bytes)

-- the error names a fault, and the bytes have it
abbrev pub Names : List ℕ → ColumnError → Type 0
Names bytes given = (fault : FileFault) × (fault_of given ≡ Some fault) × HasFileFault bytes fault
