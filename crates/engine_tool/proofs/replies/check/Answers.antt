use Rattle.std.proofs.Common.{refl}
use Rattle.command_words.specs.Commands.{check}
use Rattle.table_commands.specs.Checking.{CheckReply}
use Rattle.engine_tool.proofs.DidLemmas.{did_alone}
use Rattle.engine_tool.proofs.replies.check.Goals as goal

pub returns : goal.returns
returns g c = λ input input_faults.
    let store = g.S.Store in
    did_alone check refl refl (λ text refused. refused) input input_faults (store.files c.args.store.now) (store.files c.check_answer.new.store) (store.faults c.args.store.now) (store.faults c.check_answer.new.store)
    refl (λ files. CheckReply files) (λ files text e answered. (e, answered, refl)) c.check_answer.result c.check_answer.ensures.step c.check_answer.ensures.kept
