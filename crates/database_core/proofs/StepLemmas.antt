-- Steps of the code, one after the other, are the steps of their definitions.
use Rattle.std.proofs.Common.{◌≡◌, ◌≢◌, ℕ, List, Option, Result, Ok, Err, refl, sym, ap, ◌∙◌, inl, inr, arith}
use Rattle.std.specs.Prelude.{ok_or}
use Rattle.definitions_columns.specs.FileFaults.{FileFault, HasFileFault}
use Rattle.definitions_columns.specs.FileFaults as fault
use Rattle.definitions_outcomes.specs.Computed.{bind}
use Rattle.definitions_outcomes.specs.Outcomes.{Outcomes, Then}
use Rattle.stream_core.specs.Files.{Files}
use Rattle.stream_core.specs.Names.{now_file_name}
use Rattle.stream_core.specs.Stores.{Exceeds}
use Rattle.column_file.specs.Faults.{Says}
use Rattle.column_file.specs.declared.errors.ColumnError.{ColumnError}
use Rattle.column_file.specs.declared.errors.ColumnError.TheVariants as column
use Rattle.database_core.specs.NowFiles.{Now, now_in}
use Rattle.database_core.specs.Opening.{error_of, now_of}
use Rattle.database_core.specs.Opens.{Opens}
use Rattle.database_core.proofs.NowLemmas.{other_length}
use Rattle.database_core.specs.declared.errors.OpenError.{OpenError}
use Rattle.database_core.specs.declared.errors.OpenError.TheVariants as error

-- a step that ends only as another one does
pub Opens-along : {X A B : Type 0} (view : X → A) (from : Outcomes A OpenError) (see : X → B) (to : Outcomes B OpenError) (result : Result X OpenError) → ((value : X) → from (Ok (view value)) → to (Ok (see value)))
    → ((given : OpenError) → from (Err given) → to (Err given)) → Opens view result from → Opens see result to
Opens-along view from see to (Ok value) good bad h = good value h
Opens-along view from see to (Err error.Store) good bad h = tt
Opens-along view from see to (Err (error.TooLong file)) good bad h = bad (error.TooLong file) h
Opens-along view from see to (Err (error.NoFile file)) good bad h = bad (error.NoFile file) h
Opens-along view from see to (Err (error.BadNow table)) good bad h = bad (error.BadNow table) h
Opens-along view from see to (Err (error.Column file given)) good bad h = bad (error.Column file given) h
Opens-along view from see to (Err (error.Length file)) good bad h = bad (error.Length file) h
Opens-along view from see to (Err (error.Dict file given)) good bad h = bad (error.Dict file given) h
Opens-along view from see to (Err (error.BadCode file)) good bad h = bad (error.BadCode file) h
Opens-along view from see to (Err (error.RepeatedKey table)) good bad h = bad (error.RepeatedKey table) h
Opens-along view from see to (Err error.Memory) good bad h = tt

-- the same of a refusal, whatever the steps go on with
pub Opens-refused : {X Y A B : Type 0} (view : X → A) (from : Outcomes A OpenError) (see : Y → B) (to : Outcomes B OpenError) (given : OpenError) → (from (Err given) → to (Err given))
    → Opens view (Err given) from → Opens see (Err given) to
Opens-refused view from see to error.Store bad h = tt
Opens-refused view from see to (error.TooLong file) bad h = bad h
Opens-refused view from see to (error.NoFile file) bad h = bad h
Opens-refused view from see to (error.BadNow table) bad h = bad h
Opens-refused view from see to (error.Column file given) bad h = bad h
Opens-refused view from see to (error.Length file) bad h = bad h
Opens-refused view from see to (error.Dict file given) bad h = bad h
Opens-refused view from see to (error.BadCode file) bad h = bad h
Opens-refused view from see to (error.RepeatedKey table) bad h = bad h
Opens-refused view from see to error.Memory bad h = tt

module _ {A B Y : Type 0} (view : Y → B) (first : Outcomes A OpenError) (next : A → Outcomes B OpenError) where
  -- the first step stopped
  pub Opens-stopped : {X : Type 0} (from : X → A) (given : OpenError) → Opens from (Err given) first → Opens view (Err given) (Then first next)
  Opens-stopped from given h = Opens-refused from first view (Then first next) given (λ e. inr (given, e, refl)) h

  -- the first step gave a value, and the next one ended
  pub Opens-went : (value : A) (result : Result Y OpenError) → first (Ok value) → Opens view result (next value) → Opens view result (Then first next)
  Opens-went value result gone h = Opens-along view (next value) view (Then first next) result (λ y e. inl (value, gone, e)) (λ given e. inl (value, gone, e)) h

-- the error of a column file names the fault that the bytes have
pub fault_named : (file bytes : List ℕ) (given : ColumnError) → given ≢ column.Memory → Says bytes given
    → (found : FileFault) × HasFileFault bytes found × (error.Column file given ≡ error.Column file (error_of found))
fault_named file bytes column.BadHeader other says = (fault.bad_header, says, refl)
fault_named file bytes (column.BadDirectory block) other says = (fault.bad_directory block, says, refl)
fault_named file bytes (column.BadBlock block) other says = (fault.bad_block block, says, refl)
fault_named file bytes column.BadWidth other says = (fault.bad_width, says, refl)
fault_named file bytes column.BadTail other says = (fault.bad_tail, says, refl)
fault_named file bytes column.Memory other says = absurd (other refl)

-- a file that is too long is no now file
pub too_long : (files : Files) (table : ℕ) (name : List ℕ) → Exceeds files (now_file_name name) 13 → now_of files table name ≡ Err (error.BadNow table)
too_long files table name exceeds =
    ap (λ (found : Option (List ℕ)). bind (ok_or found (error.NoFile (now_file_name name))) (λ bytes. ok_or (now_in bytes) (error.BadNow table))) exceeds.there
    ∙ ap (λ (now : Option Now). ok_or now (error.BadNow table)) (sym (other_length exceeds.bytes (λ e. omega (arith, exceeds.long, e))))
