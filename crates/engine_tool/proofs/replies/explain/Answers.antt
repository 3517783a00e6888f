use Rattle.std.proofs.Common.{refl}
use Rattle.command_words.specs.Commands.{explain}
use Rattle.query_commands.specs.Explaining.{ExplainReply}
use Rattle.engine_tool.specs.Ends.{inside}
use Rattle.engine_tool.specs.Promises.{Inside}
use Rattle.engine_tool.proofs.DidLemmas.{did_read}
use Rattle.engine_tool.proofs.replies.explain.Goals as goal

pub returns : goal.returns
returns g c =
    let before : Inside = inside (g.S.Store.files c.args.store.now) (g.S.Store.faults c.args.store.now) (g.I.Source.left c.args.input.now) (g.I.Source.faults c.args.input.now) in
    let after : Inside = inside (g.S.Store.files c.explain_answer.new.store) (g.S.Store.faults c.explain_answer.new.store) (g.I.Source.left c.explain_answer.new.input) (g.I.Source.faults c.explain_answer.new.input) in
    let ends = c.explain_answer.ensures in
    did_read explain before after ExplainReply (λ files text e answered. (e, answered, refl)) c.explain_answer.result
    (λ files text told. ends.step files text (told.folder refl) (told.given refl)) ends.kept.files refl
    (record {
      whole = λ reads. ends.kept.whole;
      unread = λ e. cc;
      unasked = ends.unasked;
      unheard = λ files told refused. absurd refused;
      judged = λ files text told refused. absurd refused;
      store_cause = λ e. (refl, ends.kept.store_cause e);
      store_calm = ends.kept.store_calm;
      input_cause = λ e. (refl, ends.kept.input_cause e);
      input_calm = ends.kept.input_calm;
      usage = ends.kept.usage;
    })
