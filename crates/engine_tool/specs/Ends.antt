-- How a command ends in the code, what is written of it, and what that says of its answer.
use Rattle.std.specs.Prelude.{◌≡◌, ℕ, false, ◌⊎◌, List, Option, Some, None, Result, Ok, Err, OnOk, IsTrue, IsErrOf}
use Rattle.std.specs.Io.KnownBytes.{IsAtEnd}
use Rattle.stream_core.specs.Files.{Files}
use Rattle.stream_core.specs.Names.{now_file_name}
use Rattle.command_words.specs.Commands.{Command}
use Rattle.database_core.specs.TableFiles.{SameRows, SameBut}
use Rattle.table_commands.specs.Databases.{definition_of}
use Rattle.table_commands.specs.Stops.{refusal_of, stop_status, stop_line}
use Rattle.table_commands.specs.declared.stops.Stop.{Stop}
use Rattle.table_commands.specs.declared.stops.Stop.TheVariants as stop
use Rattle.engine_tool.specs.Commands.{reads_files, reads_input, saves}
use Rattle.engine_tool.specs.Promises.{Inside, Outside, Told, FilesAre, ChangesOnly, StoreRose, InputRose, StoreKept, InputKept, Took, IsCutOff, HaveSaved}
use Rattle.engine_tool.specs.Replies.{Means, RefusesText, RefusesFiles, RefusesBoth}

-- the status of an end, and the text that is to be written
abbrev pub status_of : Result (List ℕ) Stop → ℕ
status_of (Ok text) = 0
status_of (Err given) = stop_status given

abbrev pub text_of : Result (List ℕ) Stop → List ℕ
text_of (Ok text) = text
text_of (Err given) = stop_line given

-- what was written of an end, and the status: all of it, and no write failed; or a proper prefix of it, since one failed
pub data IsWritten (end : Result (List ℕ) Stop) (before after : Outside) (status : ℕ) : Type 0 where
  whole : status ≡ status_of end → Took before after (text_of end) → after.output_faults ≡ before.output_faults → IsWritten end before after status
  cut : status ≡ 3 → IsCutOff before after (text_of end) → IsWritten end before after status

-- what a command's end says of its answer
abbrev pub Answers : Command → Inside → Inside → Files → List ℕ → Result (List ℕ) Stop → Type 0
Answers command before after files text (Ok given) =
    (held : Files) × Means command files text (Ok (record { text = given; files = held })) × (before.files ≡ Some files → FilesAre after.files held)
Answers command before after files text (Err stop.Usage) = ⊥
Answers command before after files text (Err (stop.Refused given)) =
    Means command files text (Err (refusal_of given)) × (before.files ≡ Some files → FilesAre after.files files)
Answers command before after files text (Err stop.StoreFault) = Unit {0}
Answers command before after files text (Err stop.InputFault) = Unit {0}
Answers command before after files text (Err stop.Memory) = Unit {0}

-- what became of a table that was to be saved
abbrev pub Switched : Command → List ℕ → Inside → Inside → Files → Files → Type 0
Switched command table before after files held =
    StoreRose before after × (full : Files) × (saved : HaveSaved (Some command) table before files full) × SameBut (now_file_name (definition_of saved.found).name) held full

abbrev pub Stopped : Command → List ℕ → Inside → Inside → Files → Files → Result (List ℕ) Stop → Type 0
Stopped command table before after files held (Ok given) = HaveSaved (Some command) table before files held
Stopped command table before after files held (Err given) = SameRows held files ⊎ Switched command table before after files held

-- What a command did before anything is written. It is what the top call's promises are made of.
pub record Did (command : Command) (before after : Inside) (end : Result (List ℕ) Stop) : Type 0 where
  pub answers : (files : Files) (text : List ℕ) → Told (Some command) before files text → Answers command before after files text end
  pub whole : IsTrue (reads_input (Some command)) → OnOk end (IsAtEnd after.input)
  pub unread : reads_input (Some command) ≡ false → after.input ≡ before.input
  pub unasked : (text : List ℕ) → before.input ≡ Some text → RefusesText (Some command) text → StoreKept before after
  pub unheard : (files : Files) → before.files ≡ Some files → RefusesFiles (Some command) files → InputKept before after
  pub judged : (files : Files) (text : List ℕ) → Told (Some command) before files text → RefusesBoth (Some command) files text → StoreKept before after ⊎ InputKept before after
  pub changes : ChangesOnly (saves (Some command)) before.files after.files
  pub kept : (table : List ℕ) (files held : Files) → saves (Some command) ≡ Some table → before.files ≡ Some files → after.files ≡ Some held →
      Stopped command table before after files held end
  pub store_cause : IsErrOf end stop.StoreFault → IsTrue (reads_files (Some command)) × StoreRose before after
  pub store_calm : (IsErrOf end stop.StoreFault → ⊥) → after.store_faults ≡ before.store_faults
  pub input_cause : IsErrOf end stop.InputFault → IsTrue (reads_input (Some command)) × InputRose before after
  pub input_calm : (IsErrOf end stop.InputFault → ⊥) → after.input_faults ≡ before.input_faults
  pub usage : IsErrOf end stop.Usage → ⊥

-- the same for any words: if they denote no command, nothing was done
abbrev pub DidAny : Option Command → Inside → Inside → Result (List ℕ) Stop → Type 0
DidAny None before after end = ((end ≡ Err stop.Usage) ⊎ (end ≡ Err stop.Memory)) × (after ≡ before)
DidAny (Some command) before after end = Did command before after end

-- what contracts see of a store and an input, and of an output beside them
abbrev pub inside : Option Files → ℕ → Option (List ℕ) → ℕ → Inside
inside files store_faults input input_faults = record { files = files; input = input; store_faults = store_faults; input_faults = input_faults }

abbrev pub outside : Option Files → ℕ → Option (List ℕ) → ℕ → Option (List ℕ) → ℕ → Outside
outside files store_faults input input_faults output output_faults =
    record { inside = inside files store_faults input input_faults; output = output; output_faults = output_faults }
