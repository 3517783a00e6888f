-- How a step of a command ends in the code, and what that says of its definition.
use Rattle.std.specs.Prelude.{◌≡◌, ℕ, List, ◌++◌, codes, decimal, Option, Result, Ok, Err, OnOk, IsErrOf}
use Rattle.std.specs.Io.KnownBytes.{IsAtEnd}
use Rattle.definitions_outcomes.specs.Outcomes.{Outcomes}
use Rattle.stream_core.specs.Faults.{Rose}
use Rattle.stream_core.specs.Files.{Files}
use Rattle.stream_core.specs.Names.{schema_file_name}
use Rattle.table_commands.specs.Refusals as refusals
use Rattle.table_commands.specs.Refusals.{status_of_kind, bad_query, bad_file, no_such_table, sum_too_wide, usage_line}
use Rattle.table_commands.specs.Importing.{import_too_long, bad_rows}
use Rattle.table_commands.specs.Querying.{query_too_long, bad_text, bad_binding}
use Rattle.table_commands.specs.declared.stops.What.{What}
use Rattle.table_commands.specs.declared.stops.What.TheVariants as what
use Rattle.table_commands.specs.declared.stops.Refusal.{Refusal}
use Rattle.table_commands.specs.declared.stops.Refusal.TheVariants as refusal
use Rattle.table_commands.specs.declared.stops.Stop.{Stop}
use Rattle.table_commands.specs.declared.stops.Stop.TheVariants as stop

-- what is said of a file
abbrev pub what_text : What → List ℕ
what_text what.NoFile = codes "no file"
what_text what.TooLong = codes "too long"
what_text what.BadNow = codes "bad now"
what_text what.BadHeader = codes "bad header"
what_text (what.BadDirectory block) = codes "bad directory " ++ decimal block
what_text (what.BadBlock block) = codes "bad block " ++ decimal block
what_text what.BadWidth = codes "bad width"
what_text what.BadTail = codes "bad tail"
what_text what.Length = codes "length"
what_text (what.BadEntry entry) = codes "bad entry " ++ decimal entry
what_text what.Trailing = codes "trailing"
what_text what.BadCode = codes "bad code"
what_text what.BadToml = codes "bad toml"
what_text (what.Shape table column) = codes "shape " ++ decimal table ++ codes " " ++ decimal column

-- the refusal that a variant stands for
abbrev pub refusal_of : Refusal → refusals.Refusal
refusal_of refusal.Query = bad_query
refusal_of refusal.QueryTooLong = query_too_long
refusal_of (refusal.Text given) = bad_text given
refusal_of (refusal.Binding given) = bad_binding given
refusal_of (refusal.Database file what) = bad_file file (what_text what)
refusal_of (refusal.RepeatedName name) = bad_file schema_file_name (codes "repeated " ++ name)
refusal_of (refusal.RepeatedKey table) = bad_file table (codes "repeated key")
refusal_of refusal.NoSuchTable = no_such_table
refusal_of refusal.SumTooWide = sum_too_wide
refusal_of refusal.ImportTooLong = import_too_long
refusal_of (refusal.Import given) = bad_rows given

-- the status and the line of a stop
abbrev pub stop_status : Stop → ℕ
stop_status stop.Usage = 2
stop_status (stop.Refused given) = status_of_kind (refusal_of given).kind
stop_status stop.StoreFault = 3
stop_status stop.InputFault = 3
stop_status stop.Memory = 6

abbrev pub stop_line : Stop → List ℕ
stop_line stop.Usage = usage_line
stop_line (stop.Refused given) = (refusal_of given).line
stop_line stop.StoreFault = codes "fault: store\n"
stop_line stop.InputFault = codes "fault: input\n"
stop_line stop.Memory = codes "memory\n"

-- How a step ended is an outcome of its definition. A fault and want of memory say nothing.
abbrev pub Ends : {X A : Type 0} → (X → A) → Result X Stop → Outcomes A refusals.Refusal → Type 0
Ends view (Ok x) step = step (Ok (view x))
Ends view (Err stop.Usage) step = ⊥
Ends view (Err (stop.Refused given)) step = step (Err (refusal_of given))
Ends view (Err stop.StoreFault) step = Unit {0}
Ends view (Err stop.InputFault) step = Unit {0}
Ends view (Err stop.Memory) step = Unit {0}

-- the same, where the value stands for itself
abbrev pub EndsAs : {A : Type 0} → Result A Stop → Outcomes A refusals.Refusal → Type 0
EndsAs result step = Ends (λ a. a) result step

-- the same of a step that is computed; written out, since proofs find it so
abbrev pub Computes : {X A : Type 0} → (X → A) → Result X Stop → Result A refusals.Refusal → Type 0
Computes view (Ok x) outcome = outcome ≡ Ok (view x)
Computes view (Err stop.Usage) outcome = ⊥
Computes view (Err (stop.Refused given)) outcome = outcome ≡ Err (refusal_of given)
Computes view (Err stop.StoreFault) outcome = Unit {0}
Computes view (Err stop.InputFault) outcome = Unit {0}
Computes view (Err stop.Memory) outcome = Unit {0}

-- What a step over the store keeps: files stay, the count rises only at the fault that is answered, and no other object is
-- at fault.
pub record KeepsStore {X : Type 0} (files_before files_after : Option Files) (before after : ℕ) (result : Result X Stop) : Type 0 where
  pub files : files_after ≡ files_before
  pub cause : IsErrOf result stop.StoreFault → Rose before after
  pub calm : (IsErrOf result stop.StoreFault → ⊥) → after ≡ before
  pub input : IsErrOf result stop.InputFault → ⊥
  pub usage : IsErrOf result stop.Usage → ⊥

-- What a step over the input keeps.
pub record KeepsInput {X : Type 0} (left_after : Option (List ℕ)) (before after : ℕ) (result : Result X Stop) : Type 0 where
  pub whole : OnOk result (IsAtEnd left_after)
  pub cause : IsErrOf result stop.InputFault → Rose before after
  pub calm : (IsErrOf result stop.InputFault → ⊥) → after ≡ before
  pub store : IsErrOf result stop.StoreFault → ⊥
  pub usage : IsErrOf result stop.Usage → ⊥

-- What a step over neither keeps: it takes memory, or none.
pub record IsInner {X : Type 0} (result : Result X Stop) : Type 0 where
  pub store : IsErrOf result stop.StoreFault → ⊥
  pub input : IsErrOf result stop.InputFault → ⊥
  pub usage : IsErrOf result stop.Usage → ⊥

pub record TakesNoMemory {X : Type 0} (result : Result X Stop) : Type 0 where
  pub inner : IsInner result
  pub memory : IsErrOf result stop.Memory → ⊥

-- What a step over the store and the input keeps: files stay, and a count rises only at the fault that is answered.
pub record KeepsBoth {X : Type 0} (files_before files_after : Option Files) (store_before store_after : ℕ) (left_after : Option (List ℕ)) (input_before input_after : ℕ) (result : Result X Stop) : Type 0 where
  pub files : files_after ≡ files_before
  pub whole : OnOk result (IsAtEnd left_after)
  pub store_cause : IsErrOf result stop.StoreFault → Rose store_before store_after
  pub store_calm : (IsErrOf result stop.StoreFault → ⊥) → store_after ≡ store_before
  pub input_cause : IsErrOf result stop.InputFault → Rose input_before input_after
  pub input_calm : (IsErrOf result stop.InputFault → ⊥) → input_after ≡ input_before
  pub usage : IsErrOf result stop.Usage → ⊥
