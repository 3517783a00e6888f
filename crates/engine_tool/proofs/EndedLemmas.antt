-- What a call did before anything is written, whatever its words denote.
use Rattle.std.proofs.Common.{◌≡◌, ◌≢◌, ℕ, true, false, ◌⊎◌, inl, inr, List, Option, Some, None, Result, Ok, Err, refl, sym, ap, subst, ◌∙◌, arith}
use Rattle.std.specs.Prelude.{OnOk, IsTrue}
use Rattle.std.specs.Io.KnownBytes.{IsAtEnd}
use Rattle.stream_core.specs.Files.{Files}
use Rattle.stream_core.specs.Names.{now_file_name}
use Rattle.database_core.specs.TableFiles.{SameBut, SameRows}
use Rattle.command_words.specs.Commands.{Command}
use Rattle.engine_tool.specs.Commands.{reads_files, reads_input, saves}
use Rattle.table_commands.specs.Refusals.{usage_line}
use Rattle.table_commands.specs.Databases.{definition_of}
use Rattle.table_commands.specs.Saving.{Answer}
use Rattle.engine_tool.specs.Replies.{Reply, Replies, RefusesText, RefusesFiles, RefusesBoth, reply_of}
use Rattle.engine_tool.specs.Promises.{Inside, Told, FilesAre, ChangesOnly, StoreRose, InputRose, StoreKept, InputKept, HaveSaved}
use Rattle.table_commands.specs.Stops.{refusal_of}
use Rattle.engine_tool.specs.Ends.{status_of, text_of, Answers, Switched, Stopped, Did, DidAny}
use Rattle.table_commands.specs.declared.stops.Stop.{Stop}
use Rattle.table_commands.specs.declared.stops.Stop.TheVariants as stop
use Rattle.engine_tool.proofs.DidLemmas.{ChangesOnly-kept}
use Rattle.engine_tool.proofs.EndLemmas.{is_named}

-- the reply that an end is
pub record IsReply (command : Option Command) (before after : Inside) (files : Files) (text : List ℕ) (end : Result (List ℕ) Stop) : Type 0 where
  pub reply : Reply
  pub meant : Replies command files text reply
  pub status : status_of end ≡ reply.status
  pub said : text_of end ≡ reply.text
  pub left : before.files ≡ Some files → FilesAre after.files reply.files

pub record Ended (command : Option Command) (before after : Inside) (end : Result (List ℕ) Stop) : Type 0 where
  pub replies : (files : Files) (text : List ℕ) → Told command before files text → status_of end ≢ 3 → status_of end ≢ 6 → IsReply command before after files text end
  pub usage : command ≡ None → (end ≡ Err stop.Usage) ⊎ (end ≡ Err stop.Memory)
  pub only_usage : end ≡ Err stop.Usage → command ≡ None
  pub quiet : command ≡ None → after ≡ before
  pub whole : IsTrue (reads_input command) → OnOk end (IsAtEnd after.input)
  pub unread : reads_input command ≡ false → after.input ≡ before.input
  pub unasked : (text : List ℕ) → before.input ≡ Some text → RefusesText command text → StoreKept before after
  pub unheard : (files : Files) → before.files ≡ Some files → RefusesFiles command files → InputKept before after
  pub judged : (files : Files) (text : List ℕ) → Told command before files text → RefusesBoth command files text → StoreKept before after ⊎ InputKept before after
  pub changes : ChangesOnly (saves command) before.files after.files
  pub keeps : (table : List ℕ) (files held : Files) → saves command ≡ Some table → before.files ≡ Some files → after.files ≡ Some held → status_of end ≢ 0
      → SameRows held files ⊎ (StoreRose before after × (full : Files) × (saved : HaveSaved command table before files full) × SameBut (now_file_name (definition_of saved.found).name) held full)
  pub leaves : (table : List ℕ) (files held : Files) → saves command ≡ Some table → before.files ≡ Some files → after.files ≡ Some held → status_of end ≡ 0
      → HaveSaved command table before files held
  pub store_cause : end ≡ Err stop.StoreFault → IsTrue (reads_files command) × StoreRose before after
  pub store_calm : (end ≡ Err stop.StoreFault → ⊥) → after.store_faults ≡ before.store_faults
  pub input_cause : end ≡ Err stop.InputFault → IsTrue (reads_input command) × InputRose before after
  pub input_calm : (end ≡ Err stop.InputFault → ⊥) → after.input_faults ≡ before.input_faults

-- constructors that differ
false_not_true : false ≡ true → ⊥
false_not_true e = cc

none_not_some : {A : Type 0} (x : A) → None ≡ Some x → ⊥
none_not_some x e = cc

usage_not_store : (e : Result (List ℕ) Stop) → e ≡ Err stop.Usage → e ≡ Err stop.StoreFault → ⊥
usage_not_store e p q = cc

usage_not_input : (e : Result (List ℕ) Stop) → e ≡ Err stop.Usage → e ≡ Err stop.InputFault → ⊥
usage_not_input e p q = cc

memory_not_usage : (e : Result (List ℕ) Stop) → e ≡ Err stop.Memory → e ≡ Err stop.Usage → ⊥
memory_not_usage e p q = cc

memory_not_store : (e : Result (List ℕ) Stop) → e ≡ Err stop.Memory → e ≡ Err stop.StoreFault → ⊥
memory_not_store e p q = cc

memory_not_input : (e : Result (List ℕ) Stop) → e ≡ Err stop.Memory → e ≡ Err stop.InputFault → ⊥
memory_not_input e p q = cc

-- of words that denote no command
module _ (before after : Inside) (end : Result (List ℕ) Stop) (is : (end ≡ Err stop.Usage) ⊎ (end ≡ Err stop.Memory)) (same : after ≡ before) where
  kept_files : after.files ≡ before.files
  kept_files = ap (λ i. i.files) same

  usage_reply : (files : Files) (text : List ℕ) → status_of end ≢ 6 → IsReply None before after files text end
  usage_reply files text not_memory = elim is [
    | inl usage ↦ record {
      reply = record { status = 2; text = usage_line; files = files };
      meant = refl;
      status = ap status_of usage;
      said = ap text_of usage;
      left = λ is_told. subst (λ held. FilesAre held files) (sym (kept_files ∙ is_told)) (λ name. refl);
    }
    | inr memory ↦ absurd (not_memory (ap status_of memory))
  ]

  ended_none : Ended None before after end
  ended_none = record {
    replies = λ files text told not_fault not_memory. usage_reply files text not_memory;
    usage = λ e. is;
    only_usage = λ e. refl;
    quiet = λ e. same;
    whole = λ reads. absurd (false_not_true reads);
    unread = λ e. ap (λ i. i.input) same;
    unasked = λ text told refused. absurd refused;
    unheard = λ files told refused. absurd refused;
    judged = λ files text told refused. absurd refused;
    changes = subst (λ files. ChangesOnly None before.files files) (sym kept_files) (ChangesOnly-kept None before.files);
    keeps = λ table files held names. absurd (none_not_some table names);
    leaves = λ table files held names. absurd (none_not_some table names);
    store_cause = λ e. absurd (elim is [ inl usage ↦ usage_not_store end usage e | inr memory ↦ memory_not_store end memory e ]);
    store_calm = λ other. ap (λ i. i.store_faults) same;
    input_cause = λ e. absurd (elim is [ inl usage ↦ usage_not_input end usage e | inr memory ↦ memory_not_input end memory e ]);
    input_calm = λ other. ap (λ i. i.input_faults) same;
  }

-- of a command
module _ (command : Command) (before after : Inside) where
  reply_of_end : (files : Files) (text : List ℕ) (end : Result (List ℕ) Stop) → Answers command before after files text end → status_of end ≢ 3 → status_of end ≢ 6
      → IsReply (Some command) before after files text end
  reply_of_end files text (Ok given) answers not_fault not_memory =
      let answer : Answer = record { text = given; files = answers.0 } in
      record { reply = reply_of files (Ok answer); meant = (Ok answer, answers.1, refl); status = refl; said = refl; left = answers.2 }
  reply_of_end files text (Err stop.Usage) answers not_fault not_memory = absurd answers
  reply_of_end files text (Err (stop.Refused given)) answers not_fault not_memory =
      record { reply = reply_of files (Err (refusal_of given)); meant = (Err (refusal_of given), answers.0, refl); status = refl; said = refl; left = answers.1 }
  reply_of_end files text (Err stop.StoreFault) answers not_fault not_memory = absurd (not_fault refl)
  reply_of_end files text (Err stop.InputFault) answers not_fault not_memory = absurd (not_fault refl)
  reply_of_end files text (Err stop.Memory) answers not_fault not_memory = absurd (not_memory refl)

  keeps_of_end : (table : List ℕ) (files held : Files) (end : Result (List ℕ) Stop) → Stopped command table before after files held end → status_of end ≢ 0
      → SameRows held files ⊎ Switched command table before after files held
  keeps_of_end table files held (Ok given) stopped not_done = absurd (not_done refl)
  keeps_of_end table files held (Err given) stopped not_done = stopped

  leaves_of_end : (table : List ℕ) (files held : Files) (end : Result (List ℕ) Stop) → Stopped command table before after files held end → status_of end ≡ 0
      → HaveSaved (Some command) table before files held
  leaves_of_end table files held (Ok given) saved e = saved
  leaves_of_end table files held (Err stop.Usage) saved e = absurd (omega arith)
  leaves_of_end table files held (Err (stop.Refused given)) saved e = absurd ((is_named (refusal_of given).kind).done e)
  leaves_of_end table files held (Err stop.StoreFault) saved e = absurd (omega arith)
  leaves_of_end table files held (Err stop.InputFault) saved e = absurd (omega arith)
  leaves_of_end table files held (Err stop.Memory) saved e = absurd (omega arith)

  ended_some : (end : Result (List ℕ) Stop) → Did command before after end → Ended (Some command) before after end
  ended_some end did = record {
    replies = λ files text told. reply_of_end files text end (did.answers files text told);
    usage = λ e. absurd (none_not_some command (sym e));
    only_usage = λ e. absurd (did.usage e);
    quiet = λ e. absurd (none_not_some command (sym e));
    whole = did.whole;
    unread = did.unread;
    unasked = did.unasked;
    unheard = did.unheard;
    judged = did.judged;
    changes = did.changes;
    keeps = λ table files held names told_before told_after. keeps_of_end table files held end (did.kept table files held names told_before told_after);
    leaves = λ table files held names told_before told_after e. leaves_of_end table files held end (did.kept table files held names told_before told_after) e;
    store_cause = did.store_cause;
    store_calm = did.store_calm;
    input_cause = did.input_cause;
    input_calm = did.input_calm;
  }

pub ended : (command : Option Command) (before after : Inside) (end : Result (List ℕ) Stop) → DidAny command before after end → Ended command before after end
ended None before after end did = ended_none before after end did.0 did.1
ended (Some command) before after end did = ended_some command before after end did
