use Rattle.std.proofs.Common.{◌≡◌, refl, inl, inr, ◌∙◌}
use Rattle.std.proofs.lemmas.Result.{err_from_is_err_and}
use Rattle.command_words.specs.Commands.{import}
use Rattle.table_commands.specs.Importing.{ReadyImport}
use Rattle.table_commands.specs.Views.{ready_view}
use Rattle.engine_tool.specs.Ends.{inside}
use Rattle.engine_tool.specs.Promises.{Inside}
use Rattle.engine_tool.proofs.DidLemmas.{IsErrOf-other, OnOk-always, did_stopped}
use Rattle.engine_tool.proofs.SavedLemmas.{did_save}
use Rattle.engine_tool.proofs.replies.import.Goals as goal

-- nothing is ready to be saved
pub returns-in_err-ready : goal.returns-in_err-ready
returns-in_err-ready g c =
    let p = err_from_is_err_and c.from_residual.result c.from_residual.ensures.1 in
    let name = c.args.table.now in
    let before : Inside = inside (g.S.Store.files c.args.store.now) (g.S.Store.faults c.args.store.now) (g.I.Source.left c.args.input.now) (g.I.Source.faults c.args.input.now) in
    let after : Inside = inside (g.S.Store.files c.ready_import.new.store) (g.S.Store.faults c.ready_import.new.store) (g.I.Source.left c.ready_import.new.input) (g.I.Source.faults c.ready_import.new.input) in
    let given = c.in_err-ready.field-0.0 in
    let kept = c.in_err-ready.ensures.kept in
    rw (p.1, p.2)
    (did_stopped (import name) before after ready_view (λ files text. ReadyImport files name text) (λ files text r stopped. inr (r, stopped, refl)) given
    (λ files text told. c.in_err-ready.ensures.step files text (told.folder refl) (told.given refl)) kept.files
    (record {
      whole = λ reads. tt;
      unread = λ e. cc;
      unasked = λ text told refused. absurd refused;
      unheard = c.in_err-ready.ensures.unheard;
      judged = λ files text told refused. c.in_err-ready.ensures.early;
      store_cause = λ e. (refl, kept.store_cause (IsErrOf-other given _ e));
      store_calm = λ none. kept.store_calm (λ e. none (IsErrOf-other given _ e));
      input_cause = λ e. (refl, kept.input_cause (IsErrOf-other given _ e));
      input_calm = λ none. kept.input_calm (λ e. none (IsErrOf-other given _ e));
      usage = λ e. kept.usage (IsErrOf-other given _ e);
    }))

pub returns : goal.returns
returns g c =
    let name = c.args.table.now in
    let before : Inside = inside (g.S.Store.files c.args.store.now) (g.S.Store.faults c.args.store.now) (g.I.Source.left c.args.input.now) (g.I.Source.faults c.args.input.now) in
    let after : Inside = inside (g.S.Store.files c.save_ready.new.store) (g.S.Store.faults c.save_ready.new.store) (g.I.Source.left c.ready_import.new.input) (g.I.Source.faults c.ready_import.new.input) in
    let ready = ready_view c.in_ok-ready.ready in
    let was = c.in_ok-ready.ensures in
    let kept = was.kept in
    let saved = c.save_ready.ensures in
    let same_files : g.S.Store.files c.ready_import.new.store ≡ g.S.Store.files c.args.store.now = kept.files in
    let same_count : g.S.Store.faults c.ready_import.new.store ≡ g.S.Store.faults c.args.store.now = kept.store_calm (λ e. cc) in
    did_save (import name) name before after ready refl refl
    (λ files text told answer is. inl (ready, was.step files text (told.folder refl) (told.given refl), is))
    (λ files told. (c.in_ok-ready.ready.found, was.of files told, refl))
    c.save_ready.result (rw same_files at saved.saved) (rw same_files at saved.kept.changes) (λ e. rw same_count at (saved.kept.cause e))
    (record {
      whole = λ reads. OnOk-always c.save_ready.result kept.whole;
      unread = λ e. cc;
      unasked = λ text told refused. absurd refused;
      unheard = λ files told refused. absurd (refused c.in_ok-ready.ready.found (was.of files told));
      judged = λ files text told refused. absurd (refused ready (was.step files text (told.folder refl) (told.given refl)));
      store_cause = λ e. (refl, rw same_count at (saved.kept.cause e));
      store_calm = λ none. saved.kept.calm none ∙ same_count;
      input_cause = λ e. absurd (saved.kept.input e);
      input_calm = λ other. kept.input_calm (λ e. cc);
      usage = saved.kept.usage;
    })
