use Rattle.std.proofs.Common.{◌≡◌, Err, refl, inl, inr, ◌∙◌}
use Rattle.std.proofs.lemmas.Result.{err_from_is_err_and}
use Rattle.command_words.specs.Commands.{reformat}
use Rattle.table_commands.specs.Reformatting.{ReadyReformat}
use Rattle.table_commands.specs.Views.{ready_view}
use Rattle.engine_tool.specs.Ends.{inside}
use Rattle.engine_tool.specs.Promises.{Inside}
use Rattle.engine_tool.proofs.DidLemmas.{IsErrOf-other, did_stopped, beside_alone}
use Rattle.engine_tool.proofs.SavedLemmas.{did_save}
use Rattle.engine_tool.proofs.replies.reformat.Goals as goal

-- nothing is ready to be saved
pub returns-in_err-ready : goal.returns-in_err-ready
returns-in_err-ready g c = λ input input_faults.
    let p = err_from_is_err_and c.from_residual.result c.from_residual.ensures.1 in
    let name = c.args.table.now in
    let store = g.S.Store in
    let before : Inside = inside (store.files c.args.store.now) (store.faults c.args.store.now) input input_faults in
    let after : Inside = inside (store.files c.ready_reformat.new.store) (store.faults c.ready_reformat.new.store) input input_faults in
    let given = c.in_err-ready.field-0.0 in
    let kept = c.in_err-ready.ensures.kept in
    rw (p.1, p.2)
    (did_stopped (reformat name) before after ready_view (λ files text. ReadyReformat files name) (λ files text r stopped. inr (r, stopped, refl)) given
    (λ files text told. c.in_err-ready.ensures.step files (told.folder refl)) kept.files
    (beside_alone (reformat name) refl refl (λ text refused. refused) input input_faults (store.files c.args.store.now) (store.files c.ready_reformat.new.store) (store.faults c.args.store.now) (store.faults c.ready_reformat.new.store)
    (Err given) (λ e. kept.cause (IsErrOf-other given _ e)) (λ none. kept.calm (λ e. none (IsErrOf-other given _ e))) (λ e. kept.input (IsErrOf-other given _ e)) (λ e. kept.usage (IsErrOf-other given _ e))))

pub returns : goal.returns
returns g c = λ input input_faults.
    let name = c.args.table.now in
    let store = g.S.Store in
    let before : Inside = inside (store.files c.args.store.now) (store.faults c.args.store.now) input input_faults in
    let after : Inside = inside (store.files c.save_ready.new.store) (store.faults c.save_ready.new.store) input input_faults in
    let ready = ready_view c.in_ok-ready.ready in
    let was = c.in_ok-ready.ensures in
    let kept = was.kept in
    let saved = c.save_ready.ensures in
    let same_files : store.files c.ready_reformat.new.store ≡ store.files c.args.store.now = kept.files in
    let same_count : store.faults c.ready_reformat.new.store ≡ store.faults c.args.store.now = kept.calm (λ e. cc) in
    did_save (reformat name) name before after ready refl refl
    (λ files text told answer is. inl (ready, was.step files (told.folder refl), is))
    (λ files told. (c.in_ok-ready.ready.found, was.of files told, refl))
    c.save_ready.result (rw same_files at saved.saved) (rw same_files at saved.kept.changes) (λ e. rw same_count at (saved.kept.cause e))
    (beside_alone (reformat name) refl refl (λ text refused. refused) input input_faults (store.files c.args.store.now) (store.files c.save_ready.new.store) (store.faults c.args.store.now) (store.faults c.save_ready.new.store)
    c.save_ready.result (λ e. rw same_count at (saved.kept.cause e)) (λ none. saved.kept.calm none ∙ same_count) saved.kept.input saved.kept.usage)
