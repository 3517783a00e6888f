-- What a query's reader says of a file.
use Rattle.std.proofs.Common.{◌≡◌, ℕ, List, Option, Some, None, Err, ap}
use Rattle.std.proofs.lemmas.Option.{same_Some}
use Rattle.std.specs.Prelude.{option_map, MatchOption}
use Rattle.definitions_columns.specs.FileFaults.{FileFault, HasFileFault}
use Rattle.table_commands.specs.Refusals.{bad_file, fault_text}
use Rattle.engine_tool.specs.Replies.{ValuesOf}

-- the fault of a column file that a text stands for
pub fault_named : (file bytes : List ℕ) (fault : Option FileFault) (text : List ℕ) (P : Type 0) → MatchOption fault P (HasFileFault bytes) → Some text ≡ option_map fault_text fault
    → ValuesOf file bytes (Err (bad_file file text))
fault_named file bytes None text P says is = absurd (cc)
fault_named file bytes (Some fault) text P says is = (fault, says, ap (bad_file file) (same_Some text (fault_text fault) is))
