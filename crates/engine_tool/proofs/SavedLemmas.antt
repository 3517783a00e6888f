-- What a command that saves a table did, from what was ready and what became of the files.
use Rattle.std.proofs.Common.{◌≡◌, ℕ, inl, inr, List, Option, Some, None, Result, Ok, Err, refl, sym, ap, subst, ◌∙◌}
use Rattle.std.specs.Prelude.{IsTrue}
use Rattle.stream_core.specs.Files.{Files}
use Rattle.command_words.specs.Commands.{Command}
use Rattle.catalog_core.specs.declared.schemas.TableDef.{TableDef}
use Rattle.database_core.specs.Saving.{IsWritten, row_count}
use Rattle.stream_core.specs.Names.{now_file_name}
use Rattle.database_core.specs.TableFiles.{SameBut, WritesTable, ChangesTable}
use Rattle.table_commands.specs.Databases.{TableStep, definition_of}
use Rattle.table_commands.specs.Saving.{Ready, Answer, IsSaved, written}
use Rattle.table_commands.specs.SavingStops.{Saves, SavesTold}
use Rattle.table_commands.specs.declared.databases.Found.{Found}
use Rattle.table_commands.specs.declared.stops.Stop.{Stop}
use Rattle.table_commands.specs.declared.stops.Stop.TheVariants as stop
use Rattle.engine_tool.specs.Commands.{reads_files, saves}
use Rattle.engine_tool.specs.Ends.{Answers, Stopped, Did}
use Rattle.engine_tool.specs.Promises.{Inside, Told, FilesAre, ChangesOnly, StoreRose, HaveSaved}
use Rattle.engine_tool.specs.Replies.{Means}
use Rattle.engine_tool.proofs.DidLemmas.{Beside}

-- the answer whose files were written
abbrev answer_written : (files : Files) (ready : Ready) (held : Files) → IsWritten files ready.table ready.columns held → Answer
answer_written files ready held is = record { text = ready.line; files = written files ready.table is.0 (row_count ready.columns) }

is_saved : (files : Files) (ready : Ready) (held : Files) (is : IsWritten files ready.table ready.columns held) → IsSaved files ready (answer_written files ready held is)
is_saved files ready held is = (refl, is.0, is.1, refl)

-- files that are told and not told are other files
told_not_untold : (files : Files) → ◌≡◌ {A = Option Files} (Some files) None → ⊥
told_not_untold files e = cc

module _ (command : Command) (name : List ℕ) (before after : Inside) (ready : Ready)
    (reads : IsTrue (reads_files (Some command))) (names : saves (Some command) ≡ Some name)
    (means : (files : Files) (text : List ℕ) → Told (Some command) before files text → (answer : Answer) → IsSaved files ready answer → Means command files text (Ok answer)) where
  -- what the files held where the saving ended
  saves_answers : (files : Files) (text : List ℕ) → Told (Some command) before files text → (held : Files) → after.files ≡ Some held → (end : Result (List ℕ) Stop)
      → Saves files ready held end → Answers command before after files text end
  saves_answers files text told held is (Ok given) (says, all) =
      let answer = answer_written files ready held all in
      let said : answer ≡ record { text = given; files = answer.files } = ap (λ (line : List ℕ). record { text = line; files = answer.files }) (sym says) in (
        answer.files,
        subst (λ one. Means command files text (Ok one)) said (means files text told answer (is_saved files ready held all)),
        λ told_before. subst (λ found. FilesAre found answer.files) (sym is) all.2,
      )
  saves_answers files text told held is (Err stop.Usage) saved = saved
  saves_answers files text told held is (Err (stop.Refused given)) saved = absurd saved
  saves_answers files text told held is (Err stop.StoreFault) saved = tt
  saves_answers files text told held is (Err stop.InputFault) saved = tt
  saves_answers files text told held is (Err stop.Memory) saved = tt

  told_answers : (files : Files) (text : List ℕ) → Told (Some command) before files text → (found : Option Files) → after.files ≡ found → (end : Result (List ℕ) Stop)
      → SavesTold ready (Some files) found end → Answers command before after files text end
  told_answers files text told None is end saved = absurd saved
  told_answers files text told (Some held) is end saved = saves_answers files text told held is end saved

  answers : (end : Result (List ℕ) Stop) → SavesTold ready before.files after.files end → (files : Files) (text : List ℕ) → Told (Some command) before files text
      → Answers command before after files text end
  answers end saved files text told =
      told_answers files text told after.files refl end (subst (λ found. SavesTold ready found after.files end) (told.folder reads) saved)

  -- the files with the table saved
  abbrev have_saved : (files full : Files) → (found : Found) → TableStep files name (Ok found) → definition_of found ≡ ready.table → IsWritten files ready.table ready.columns full
      → HaveSaved (Some command) name before files full
  have_saved files full found named is all = record {
    found = found;
    named = named;
    columns = ready.columns;
    written = subst (λ (table : TableDef). IsWritten files table ready.columns full) (sym is) all;
    leaves = λ text told. (answer_written files ready full all, means files text told (answer_written files ready full all) (is_saved files ready full all), λ one. sym (all.2 one));
  }

  -- the rows where it ended
  saves_stopped : (files held : Files) → (found : Found) → TableStep files name (Ok found) → definition_of found ≡ ready.table → (end : Result (List ℕ) Stop)
      → (end ≡ Err stop.StoreFault → StoreRose before after) → Saves files ready held end → Stopped command name before after files held end
  saves_stopped files held found named is (Ok given) cause (says, all) = have_saved files held found named is all
  saves_stopped files held found named is (Err stop.Usage) cause saved = absurd saved
  saves_stopped files held found named is (Err (stop.Refused given)) cause saved = absurd saved
  saves_stopped files held found named is (Err stop.StoreFault) cause saved = elim saved [
    | inl same ↦ inl same
    | inr moved ↦ inr (cause refl, moved.0, have_saved files moved.0 found named is moved.1, subst (λ (table : TableDef). SameBut (now_file_name table.name) held moved.0) (sym is) moved.2)
  ]
  saves_stopped files held found named is (Err stop.InputFault) cause saved = absurd saved
  saves_stopped files held found named is (Err stop.Memory) cause saved = inl saved

  stopped : ((files : Files) → before.files ≡ Some files → (found : Found) × TableStep files name (Ok found) × (definition_of found ≡ ready.table))
      → (end : Result (List ℕ) Stop) → (end ≡ Err stop.StoreFault → StoreRose before after) → SavesTold ready before.files after.files end
      → (files held : Files) → before.files ≡ Some files → after.files ≡ Some held → Stopped command name before after files held end
  stopped ofs end cause saved files held told_before told_after =
      let of = ofs files told_before in
      saves_stopped files held of.0 of.1 of.2 end cause
      (subst (λ found. SavesTold ready (Some files) found end) told_after (subst (λ found. SavesTold ready found after.files end) told_before saved))

  -- the files that changed
  table_changes : (ofs : (files : Files) → before.files ≡ Some files → (found : Found) × TableStep files name (Ok found) × (definition_of found ≡ ready.table))
      → (told untold : Option Files) → before.files ≡ told → ChangesTable ready.table told untold → ChangesOnly (Some name) told untold
  table_changes ofs None untold is changes = changes
  table_changes ofs (Some files) None is changes = changes
  table_changes ofs (Some files) (Some held) is changes =
      let of = ofs files is in
      λ one may_not. changes one (λ writes. may_not (of.0, of.1, subst (λ (table : TableDef). WritesTable table files one) (sym of.2) writes))

  pub did_save : ((files : Files) → before.files ≡ Some files → (found : Found) × TableStep files name (Ok found) × (definition_of found ≡ ready.table))
      → (end : Result (List ℕ) Stop) → SavesTold ready before.files after.files end → ChangesTable ready.table before.files after.files
      → (end ≡ Err stop.StoreFault → StoreRose before after) → Beside command before after end → Did command before after end
  did_save ofs end saved changes cause beside = record {
    answers = answers end saved;
    whole = beside.whole;
    unread = beside.unread;
    unasked = beside.unasked;
    unheard = beside.unheard;
    judged = beside.judged;
    changes = subst (λ named. ChangesOnly named before.files after.files) (sym names) (table_changes ofs before.files after.files refl changes);
    kept = λ table files held is told_before told_after.
        subst (λ one. Stopped command one before after files held end) (same_name table is) (stopped ofs end cause saved files held told_before told_after);
    store_cause = beside.store_cause;
    store_calm = beside.store_calm;
    input_cause = beside.input_cause;
    input_calm = beside.input_calm;
    usage = beside.usage;
  } where
    same_name : (table : List ℕ) → saves (Some command) ≡ Some table → name ≡ table
    same_name table is = ap (λ named. name_or named) (sym names ∙ is) where
      name_or : Option (List ℕ) → List ℕ
      name_or None = name
      name_or (Some one) = one
