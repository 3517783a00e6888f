-- What a command that saves nothing did, from the clauses of its steps.
use Rattle.std.proofs.Common.{◌≡◌, ℕ, ◌⊎◌, true, false, inl, inr, List, Option, Some, None, Result, Ok, Err, refl, sym, ap, subst, ◌∙◌}
use Rattle.std.specs.Prelude.{OnOk, IsErrOf, IsTrue}
use Rattle.std.specs.Io.KnownBytes.{IsAtEnd}
use Rattle.stream_core.specs.Faults.{Rose}
use Rattle.stream_core.specs.Files.{Files}
use Rattle.command_words.specs.Commands.{Command, help}
use Rattle.command_words.specs.Words.{help_text}
use Rattle.engine_tool.specs.Commands.{reads_files, reads_input, saves}
use Rattle.table_commands.specs.Refusals.{Refusal}
use Rattle.definitions_outcomes.specs.Outcomes.{Outcomes, Gives}
use Rattle.database_core.specs.TableFiles.{SameRows}
use Rattle.table_commands.specs.Saving.{unchanged}
use Rattle.engine_tool.specs.Replies.{Means, RefusesText, RefusesFiles, RefusesBoth}
use Rattle.engine_tool.specs.Promises.{Inside, Told, FilesAre, ChangesOnly, StoreRose, InputRose, StoreKept, InputKept}
use Rattle.table_commands.specs.Stops.{refusal_of, Ends, EndsAs, KeepsStore}
use Rattle.engine_tool.specs.Ends.{Answers, Stopped, Did, DidAny, inside}
use Rattle.table_commands.specs.declared.stops.Stop.{Stop}
use Rattle.table_commands.specs.declared.stops.Stop.TheVariants as stop

-- a fact that holds anyway holds of a value
pub OnOk-always : {T E P : Type 0} (r : Result T E) → P → OnOk r P
OnOk-always (Ok x) p = p
OnOk-always (Err e) p = tt

-- the same error of another type's result
pub IsErrOf-other : {T U E : Type 0} (given error : E) → IsErrOf {T = T} (Err given) error → IsErrOf {T = U} (Err given) error
IsErrOf-other given error e = let same : given ≡ error = cc in ap (λ other. Err other) same

-- files that did not change
pub FilesAre-kept : (before after : Option Files) (files : Files) → after ≡ before → before ≡ Some files → FilesAre after files
FilesAre-kept before after files kept told = subst (λ held. FilesAre held files) (sym (kept ∙ told)) (λ name. refl)

pub ChangesOnly-kept : (saved : Option (List ℕ)) (files : Option Files) → ChangesOnly saved files files
ChangesOnly-kept saved None = refl
ChangesOnly-kept saved (Some files) = λ name not. refl

SameRows-kept : (held files : Files) → held ≡ files → SameRows held files
SameRows-kept held files e = subst (λ other. SameRows other files) (sym e) (λ schema needs end lawful ordered. (λ h. h, λ h. h))

abbrev some_or : {A : Type 0} → A → Option A → A
some_or other None = other
some_or other (Some value) = value

-- what a command's steps say beside its answer and the files
pub record Beside (command : Command) (before after : Inside) (end : Result (List ℕ) Stop) : Type 0 where
  pub whole : IsTrue (reads_input (Some command)) → OnOk end (IsAtEnd after.input)
  pub unread : reads_input (Some command) ≡ false → after.input ≡ before.input
  pub unasked : (text : List ℕ) → before.input ≡ Some text → RefusesText (Some command) text → StoreKept before after
  pub unheard : (files : Files) → before.files ≡ Some files → RefusesFiles (Some command) files → InputKept before after
  pub judged : (files : Files) (text : List ℕ) → Told (Some command) before files text → RefusesBoth (Some command) files text → StoreKept before after ⊎ InputKept before after
  pub store_cause : IsErrOf end stop.StoreFault → IsTrue (reads_files (Some command)) × StoreRose before after
  pub store_calm : (IsErrOf end stop.StoreFault → ⊥) → after.store_faults ≡ before.store_faults
  pub input_cause : IsErrOf end stop.InputFault → IsTrue (reads_input (Some command)) × InputRose before after
  pub input_calm : (IsErrOf end stop.InputFault → ⊥) → after.input_faults ≡ before.input_faults
  pub usage : IsErrOf end stop.Usage → ⊥

none_not_some : {A : Type 0} (x : A) → None ≡ Some x → ⊥
none_not_some x e = cc

module _ (command : Command) (before after : Inside) where
  -- the end of a command that saves nothing
  answers_read : (files : Files) (text : List ℕ) (step : Outcomes (List ℕ) Refusal) → ((e : Result (List ℕ) Refusal) → step e → Means command files text (unchanged files e))
      → after.files ≡ before.files → (end : Result (List ℕ) Stop) → EndsAs end step → Answers command before after files text end
  answers_read files text step means kept (Ok given) ends = (files, means (Ok given) ends, FilesAre-kept before.files after.files files kept)
  answers_read files text step means kept (Err stop.Usage) ends = ends
  answers_read files text step means kept (Err (stop.Refused given)) ends = (means (Err (refusal_of given)) ends, FilesAre-kept before.files after.files files kept)
  answers_read files text step means kept (Err stop.StoreFault) ends = tt
  answers_read files text step means kept (Err stop.InputFault) ends = tt
  answers_read files text step means kept (Err stop.Memory) ends = tt

  -- what a command did whose answer is known, and that kept the files
  did_kept : (end : Result (List ℕ) Stop) → ((files : Files) (text : List ℕ) → Told (Some command) before files text → Answers command before after files text end)
      → after.files ≡ before.files
      → ((table : List ℕ) (files held : Files) → saves (Some command) ≡ Some table → held ≡ files → Stopped command table before after files held end)
      → Beside command before after end → Did command before after end
  did_kept end answers kept stopped beside = record {
    answers = answers;
    whole = beside.whole;
    unread = beside.unread;
    unasked = beside.unasked;
    unheard = beside.unheard;
    judged = beside.judged;
    changes = subst (λ files. ChangesOnly (saves (Some command)) before.files files) (sym kept) (ChangesOnly-kept (saves (Some command)) before.files);
    kept = λ table files held is told_before told_after. stopped table files held is (ap (some_or held) (sym told_after ∙ kept ∙ told_before));
    store_cause = beside.store_cause;
    store_calm = beside.store_calm;
    input_cause = beside.input_cause;
    input_calm = beside.input_calm;
    usage = beside.usage;
  }

  pub did_read : (step : Files → List ℕ → Outcomes (List ℕ) Refusal) → ((files : Files) (text : List ℕ) (e : Result (List ℕ) Refusal) → step files text e → Means command files text (unchanged files e))
      → (end : Result (List ℕ) Stop) → ((files : Files) (text : List ℕ) → Told (Some command) before files text → EndsAs end (step files text))
      → after.files ≡ before.files → saves (Some command) ≡ None → Beside command before after end → Did command before after end
  did_read step means end ends kept none beside =
      did_kept end (λ files text told. answers_read files text (step files text) (means files text) kept end (ends files text told)) kept
      (λ table files held is. absurd (none_not_some table (sym none ∙ is))) beside

  -- a step before the saving stopped
  answers_stopped : {X A : Type 0} (view : X → A) (files : Files) (text : List ℕ) (step : Outcomes A Refusal) → ((r : Refusal) → step (Err r) → Means command files text (Err r))
      → after.files ≡ before.files → (given : Stop) → Ends view (Err given) step → Answers command before after files text (Err given)
  answers_stopped view files text step means kept stop.Usage ends = ends
  answers_stopped view files text step means kept (stop.Refused given) ends = (means (refusal_of given) ends, FilesAre-kept before.files after.files files kept)
  answers_stopped view files text step means kept stop.StoreFault ends = tt
  answers_stopped view files text step means kept stop.InputFault ends = tt
  answers_stopped view files text step means kept stop.Memory ends = tt

  pub did_stopped : {X A : Type 0} (view : X → A) (step : Files → List ℕ → Outcomes A Refusal) → ((files : Files) (text : List ℕ) (r : Refusal) → step files text (Err r) → Means command files text (Err r))
      → (given : Stop) → ((files : Files) (text : List ℕ) → Told (Some command) before files text → Ends view (Err given) (step files text))
      → after.files ≡ before.files → Beside command before after (Err given) → Did command before after (Err given)
  did_stopped view step means given ends kept beside =
      did_kept (Err given) (λ files text told. answers_stopped view files text (step files text) (means files text) kept given (ends files text told)) kept
      (λ table files held is same. inl (SameRows-kept held files same)) beside

-- memory was refused before anything was done
pub did_nothing : (command : Command) (at : Inside) → Did command at at (Err stop.Memory)
did_nothing command at = did_kept command at at (Err stop.Memory) (λ files text told. tt) refl (λ table files held is same. inl (SameRows-kept held files same)) (record {
  whole = λ reads. tt;
  unread = λ e. refl;
  unasked = λ text told refused. refl;
  unheard = λ files told refused. (refl, refl);
  judged = λ files text told refused. inl refl;
  store_cause = λ e. absurd (cc);
  store_calm = λ other. refl;
  input_cause = λ e. absurd (cc);
  input_calm = λ other. refl;
  usage = λ e. cc;
})

-- constructors that differ
false_not_true : false ≡ true → ⊥
false_not_true e = cc

-- Steps of a command that reads files and no input: the input stays as it is.
module _ (command : Command) (reads : IsTrue (reads_files (Some command))) (ignores : reads_input (Some command) ≡ false)
    (never : (text : List ℕ) → RefusesText (Some command) text → ⊥) (input : Option (List ℕ)) (input_faults : ℕ)
    (files_before files_after : Option Files) (store_before store_after : ℕ) where
  pub beside_alone : (end : Result (List ℕ) Stop) → (IsErrOf end stop.StoreFault → Rose store_before store_after)
      → ((IsErrOf end stop.StoreFault → ⊥) → store_after ≡ store_before) → (IsErrOf end stop.InputFault → ⊥) → (IsErrOf end stop.Usage → ⊥)
      → Beside command (inside files_before store_before input input_faults) (inside files_after store_after input input_faults) end
  beside_alone end cause calm not_input usage = record {
    whole = λ read. absurd (false_not_true (sym ignores ∙ read));
    unread = λ e. refl;
    unasked = λ text told refused. absurd (never text refused);
    unheard = λ files told refused. (refl, refl);
    judged = λ files text told refused. inr (refl, refl);
    store_cause = λ e. (reads, cause e);
    store_calm = calm;
    input_cause = λ e. absurd (not_input e);
    input_calm = λ other. refl;
    usage = usage;
  }

  -- a command that saves nothing
  pub did_alone : saves (Some command) ≡ None → (step : Files → Outcomes (List ℕ) Refusal) → ((files : Files) (text : List ℕ) (e : Result (List ℕ) Refusal) → step files e → Means command files text (unchanged files e))
      → (end : Result (List ℕ) Stop) → ((files : Files) → files_before ≡ Some files → EndsAs end (step files)) → KeepsStore files_before files_after store_before store_after end
      → Did command (inside files_before store_before input input_faults) (inside files_after store_after input input_faults) end
  did_alone nothing step means end ends kept =
      did_read command (inside files_before store_before input input_faults) (inside files_after store_after input input_faults) (λ files text. step files) means end
      (λ files text told. ends files (told.folder reads)) kept.files nothing (beside_alone end kept.cause kept.calm kept.input kept.usage)

-- the commands were listed
pub did_help : (at : Inside) (text : List ℕ) → text ≡ help_text → Did help at at (Ok text)
did_help at text is = did_read help at at (λ files given. Gives (Ok help_text)) (λ files given e answered. (e, answered, refl)) (Ok text)
    (λ files given told. ap Ok is) refl refl (record {
      whole = λ reads. absurd (cc);
      unread = λ e. refl;
      unasked = λ given told refused. absurd refused;
      unheard = λ files told refused. absurd refused;
      judged = λ files given told refused. absurd refused;
      store_cause = λ e. absurd (cc);
      store_calm = λ other. refl;
      input_cause = λ e. absurd (cc);
      input_calm = λ other. refl;
      usage = λ e. cc;
    })

-- memory was refused for the words, whatever they denote
pub did_refused : (command : Option Command) (at : Inside) → DidAny command at at (Err stop.Memory)
did_refused None at = (inr refl, refl)
did_refused (Some command) at = did_nothing command at
