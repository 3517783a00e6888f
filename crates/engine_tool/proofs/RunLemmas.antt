-- The top call's promises, from what a command did and what was written of its end.
use Rattle.std.proofs.Common.{◌≡◌, ◌≢◌, ℕ, ◌⊎◌, inl, inr, List, Option, Some, Result, Err, zero, suc, refl, sym, ap, subst, arith}
use Rattle.std.specs.Prelude.{codes}
use Rattle.std.specs.Io.KnownBytes.{IsAtEnd}
use Rattle.stream_core.specs.Files.{Files}
use Rattle.command_words.specs.Commands.{Command}
use Rattle.engine_tool.specs.Commands.{saves}
use Rattle.engine_tool.specs.Replies.{Reply, Replies}
use Rattle.engine_tool.specs.Promises.{Outside, Told, FilesAre, SomeRose, NoneFailed, NoneInside, IsCutOff, Took, Says, IsFault, store, input, reply, memory, AfterRefusal, same, switch, line, Promises}
use Rattle.engine_tool.specs.Ends.{status_of, text_of, IsWritten, whole, cut, DidAny}
use Rattle.table_commands.specs.declared.stops.Stop.{Stop}
use Rattle.table_commands.specs.declared.stops.Stop.TheVariants as stop
use Rattle.engine_tool.proofs.EndLemmas.{at_two, at_three, at_six, at_zero, fault, want, other, sort_of}
use Rattle.engine_tool.proofs.EndedLemmas.{Ended, ended}

store_not_input : (e : Result (List ℕ) Stop) → e ≡ Err stop.StoreFault → e ≡ Err stop.InputFault → ⊥
store_not_input e p q = cc

is_zero : (n : ℕ) → (n ≡ 0) ⊎ (n ≢ 0)
is_zero zero = inl refl
is_zero (suc n) = inr (λ e. omega (arith, e))

module _ (command : Option Command) (before after : Outside) (end : Result (List ℕ) Stop) (it : Ended command before.inside after.inside end) where
  -- a fault of the store or the input, whose line was said
  fault_said : status_of end ≡ 3 → ((text : List ℕ) → text_of end ≡ text → Says before after text) → IsFault command before after
  fault_said e says = elim (at_three end e) [
    | inl is ↦ store (it.store_cause is).0 (it.store_cause is).1 (it.input_calm (store_not_input end is)) (says (codes "fault: store\n") (ap text_of is))
    | inr is ↦ input (it.input_cause is).0 (it.input_cause is).1 (it.store_calm (λ e. store_not_input end e is)) (says (codes "fault: input\n") (ap text_of is))
  ]

  kept_said : (table : List ℕ) (files held : Files) → saves command ≡ Some table → before.inside.files ≡ Some files → after.inside.files ≡ Some held → status_of end ≢ 0
      → AfterRefusal command table before after files held
  kept_said table files held names told_before told_after not_done = elim (it.keeps table files held names told_before told_after not_done) [
    | inl rows_same ↦ same rows_same
    | inr moved ↦ switch moved.0 moved.1 moved.2 moved.3
  ]

  some_rose : status_of end ≡ 3 → SomeRose before after
  some_rose e = elim (at_three end e) [ inl is ↦ inl (it.store_cause is).1 | inr is ↦ inr (inl (it.input_cause is).1) ]

  -- the promises of an end that was written in whole
  module _ (took : Took before after (text_of end)) (sound : after.output_faults ≡ before.output_faults) where
    whole_reply : (files : Files) (text : List ℕ) → Told command before.inside files text → status_of end ≢ 3 → status_of end ≢ 6 →
        (reply : Reply) × Replies command files text reply × (status_of end ≡ reply.status) × Took before after reply.text
        × (before.inside.files ≡ Some files → FilesAre after.inside.files reply.files)
    whole_reply files text told not_fault not_memory =
        let r = it.replies files text told not_fault not_memory in
        (r.reply, r.meant, r.status, subst (Took before after) r.said took, r.left)

    none_failed : status_of end ≢ 3 → NoneFailed before after
    none_failed not_fault = record {
      store = it.store_calm (λ e. not_fault (ap status_of e));
      input = it.input_calm (λ e. not_fault (ap status_of e));
      output = sound;
    }

    promises_whole : Promises command before after (status_of end)
    promises_whole = record {
      reply = whole_reply;
      usage = λ e. elim (it.usage e) [
        | inl is ↦ inl (ap status_of is, subst (Took before after) (ap text_of is) took)
        | inr is ↦ inr (inr (ap status_of is))
      ];
      only_usage = λ e. it.only_usage (at_two end e);
      quiet = it.quiet;
      whole = λ reads e. at_zero end (IsAtEnd after.inside.input) e (it.whole reads);
      unread = it.unread;
      unasked = it.unasked;
      unheard = it.unheard;
      judged = it.judged;
      changes = it.changes;
      kept = kept_said;
      fault = λ e. fault_said e (λ text is. inl (subst (Took before after) is took, sound));
      calm = none_failed;
      memory = λ e. subst (Took before after) (ap text_of (at_six end e)) took;
      complete = λ none files text told. elim (sort_of end) [
        | fault e ↦ absurd (none (some_rose e))
        | want e ↦ inl e
        | other not_fault not_memory ↦ let r = it.replies files text told not_fault not_memory in inr (r.reply, r.meant, r.status)
      ];
    }

  -- the promises of an end that was cut off
  module _ (cut_off : IsCutOff before after (text_of end)) where
    none_inside : status_of end ≢ 3 → NoneInside before.inside after.inside
    none_inside not_fault = record { store = it.store_calm (λ e. not_fault (ap status_of e)); input = it.input_calm (λ e. not_fault (ap status_of e)) }

    cut_fault : IsFault command before after
    cut_fault = elim (sort_of end) [
      | fault e ↦ fault_said e (λ text is. inr (subst (IsCutOff before after) is cut_off))
      | want e ↦ memory (none_inside (λ three. omega (arith, e, three))) (subst (IsCutOff before after) (ap text_of (at_six end e)) cut_off)
      | other not_fault not_memory ↦
          reply (text_of end) (none_inside not_fault) cut_off (λ files text told. let r = it.replies files text told not_fault not_memory in (r.reply, r.meant, r.said))
    ]

    kept_cut : (table : List ℕ) (files held : Files) → saves command ≡ Some table → before.inside.files ≡ Some files → after.inside.files ≡ Some held → AfterRefusal command table before after files held
    kept_cut table files held names told_before told_after = elim (is_zero (status_of end)) [
      | inl e ↦ line cut_off.fault (it.leaves table files held names told_before told_after e)
      | inr not_done ↦ kept_said table files held names told_before told_after not_done
    ]

    promises_cut : Promises command before after 3
    promises_cut = record {
      reply = λ files text told not_fault not_memory. absurd (not_fault refl);
      usage = λ e. inr (inl (
        refl,
        elim (it.usage e) [
          | inl is ↦ inl (subst (IsCutOff before after) (ap text_of is) cut_off)
          | inr is ↦ inr (subst (IsCutOff before after) (ap text_of is) cut_off)
        ],
      ));
      only_usage = λ e. absurd (omega (arith, e));
      quiet = it.quiet;
      whole = λ reads e. absurd (omega (arith, e));
      unread = it.unread;
      unasked = it.unasked;
      unheard = it.unheard;
      judged = it.judged;
      changes = it.changes;
      kept = λ table files held names told_before told_after not_done. kept_cut table files held names told_before told_after;
      fault = λ e. cut_fault;
      calm = λ not_fault. absurd (not_fault refl);
      memory = λ e. absurd (omega (arith, e));
      complete = λ none files text told. absurd (none (inr (inr cut_off.fault)));
    }

pub promises : (command : Option Command) (before after : Outside) (end : Result (List ℕ) Stop) (status : ℕ) → DidAny command before.inside after.inside end
    → IsWritten end before after status → Promises command before after status
promises command before after end status did (whole e took sound) =
    subst (Promises command before after) (sym e) (promises_whole command before after end (ended command before.inside after.inside end did) took sound)
promises command before after end status did (cut e cut_off) =
    subst (Promises command before after) (sym e) (promises_cut command before after end (ended command before.inside after.inside end did) cut_off)
