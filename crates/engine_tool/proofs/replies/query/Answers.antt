use Rattle.std.proofs.Common.{List, ℕ, Err, refl}
use Rattle.std.proofs.lemmas.Result.{err_from_is_err_and}
use Rattle.command_words.specs.Commands.{query}
use Rattle.command_words.specs.Views.{query_view as options_view}
use Rattle.engine_tool.specs.Promises.{Inside}
use Rattle.engine_tool.specs.Replies.{QueryOf, AnswerOf, QueryReply}
use Rattle.engine_tool.specs.Ends.{inside}
use Rattle.engine_tool.specs.Texts.{query_view}
use Rattle.engine_tool.proofs.DidLemmas.{OnOk-always, IsErrOf-other, did_read}
use Rattle.table_commands.proofs.StepLemmas.{Ends-stopped, Ends-went}
use Rattle.engine_tool.proofs.replies.query.Goals as goal

-- the text was not read, or is no query: no file was loaded
pub returns-in_err-query : goal.returns-in_err-query
returns-in_err-query g c =
    let p = err_from_is_err_and c.from_residual.result c.from_residual.ensures.1 in
    let before : Inside = inside (g.S.Store.files c.args.store.now) (g.S.Store.faults c.args.store.now) (g.I.Source.left c.args.input.now) (g.I.Source.faults c.args.input.now) in
    let after : Inside = inside (g.S.Store.files c.args.store.now) (g.S.Store.faults c.args.store.now) (g.I.Source.left c.query_of.new.input) (g.I.Source.faults c.query_of.new.input) in
    let given = c.in_err-query.field-0.0 in
    let kept = c.in_err-query.ensures.kept in
    rw (p.1, p.2)
    (did_read (query (options_view c.args.options.now)) before after QueryReply (λ files text e answered. (e, answered, refl)) (Err given)
    (λ files text told. Ends-stopped (λ (b : List ℕ). b) (QueryOf text) (AnswerOf files) query_view given (c.in_err-query.ensures.step text (told.given refl))) refl refl
    (record {
      whole = λ reads. tt;
      unread = λ e. cc;
      unasked = λ text told refused. refl;
      unheard = λ files told refused. absurd refused;
      judged = λ files text told refused. absurd refused;
      store_cause = λ e. absurd (kept.store (IsErrOf-other given _ e));
      store_calm = λ other. refl;
      input_cause = λ e. (refl, kept.cause (IsErrOf-other given _ e));
      input_calm = λ none. kept.calm (λ e. none (IsErrOf-other given _ e));
      usage = λ e. kept.usage (IsErrOf-other given _ e);
    }))

pub returns : goal.returns
returns g c =
    let before : Inside = inside (g.S.Store.files c.args.store.now) (g.S.Store.faults c.args.store.now) (g.I.Source.left c.args.input.now) (g.I.Source.faults c.args.input.now) in
    let after : Inside = inside (g.S.Store.files c.answer.new.store) (g.S.Store.faults c.answer.new.store) (g.I.Source.left c.query_of.new.input) (g.I.Source.faults c.query_of.new.input) in
    let asked = query_view c.in_ok-query.query in
    let read = c.in_ok-query.ensures in
    let kept = c.answer.ensures.kept in
    did_read (query (options_view c.args.options.now)) before after QueryReply (λ files text e answered. (e, answered, refl)) c.answer.result
    (λ files text told. Ends-went (λ (b : List ℕ). b) (QueryOf text) (AnswerOf files) asked c.answer.result (read.step text (told.given refl)) (c.answer.ensures.step files (told.folder refl))) kept.files refl
    (record {
      whole = λ reads. OnOk-always c.answer.result read.kept.whole;
      unread = λ e. cc;
      unasked = λ text told refused. absurd (refused asked (read.step text told));
      unheard = λ files told refused. absurd refused;
      judged = λ files text told refused. absurd refused;
      store_cause = λ e. (refl, kept.cause e);
      store_calm = kept.calm;
      input_cause = λ e. absurd (kept.input e);
      input_calm = λ other. read.kept.calm (λ e. cc);
      usage = kept.usage;
    })
