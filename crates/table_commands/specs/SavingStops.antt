-- How the saving of what is ready ends in the code, and what became of the files.
use Rattle.std.specs.Prelude.{◌≡◌, ℕ, ◌⊎◌, List, Option, Some, None, Result, Ok, Err, IsErrOf}
use Rattle.stream_core.specs.Faults.{Rose}
use Rattle.stream_core.specs.Files.{Files}
use Rattle.stream_core.specs.Names.{now_file_name}
use Rattle.database_core.specs.TableFiles.{SameBut, SameRows, ChangesTable}
use Rattle.database_core.specs.Saving.{IsWritten}
use Rattle.table_commands.specs.Saving.{Ready}
use Rattle.table_commands.specs.declared.stops.Stop.{Stop}
use Rattle.table_commands.specs.declared.stops.Stop.TheVariants as stop

-- all was saved but for the now file, whose save failed
abbrev pub SavesAllButNow : Files → Ready → Files → Type 0
SavesAllButNow files ready held =
    (full : Files) × IsWritten files ready.table ready.columns full × SameBut (now_file_name ready.table.name) held full

-- the line, and the files with the table saved; or a stop, and files in which the rows stand as they did, or in which all was saved
-- but the now file
abbrev pub Saves : Files → Ready → Files → Result (List ℕ) Stop → Type 0
Saves files ready held (Ok text) = (text ≡ ready.line) × IsWritten files ready.table ready.columns held
Saves files ready held (Err stop.Usage) = ⊥
Saves files ready held (Err (stop.Refused given)) = ⊥
Saves files ready held (Err stop.StoreFault) = SameRows held files ⊎ SavesAllButNow files ready held
Saves files ready held (Err stop.InputFault) = ⊥
Saves files ready held (Err stop.Memory) = SameRows held files

abbrev pub SavesTold : Ready → Option Files → Option Files → Result (List ℕ) Stop → Type 0
SavesTold ready None after result = after ≡ None
SavesTold ready (Some files) None result = ⊥
SavesTold ready (Some files) (Some held) result = Saves files ready held result

-- What saving keeps beside the rows: no file but some of the table's changes, and the count rises only at the fault that is answered.
pub record KeepsOthers (ready : Ready) (files_before files_after : Option Files) (before after : ℕ) (result : Result (List ℕ) Stop) : Type 0 where
  pub changes : ChangesTable ready.table files_before files_after
  pub cause : IsErrOf result stop.StoreFault → Rose before after
  pub calm : (IsErrOf result stop.StoreFault → ⊥) → after ≡ before
  pub input : IsErrOf result stop.InputFault → ⊥
  pub usage : IsErrOf result stop.Usage → ⊥
