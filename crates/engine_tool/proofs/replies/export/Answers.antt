use Rattle.std.proofs.Common.{refl}
use Rattle.command_words.specs.Commands.{export}
use Rattle.table_commands.specs.Exporting.{ExportReply}
use Rattle.engine_tool.proofs.DidLemmas.{did_alone}
use Rattle.engine_tool.proofs.replies.export.Goals as goal

pub returns : goal.returns
returns g c = λ input input_faults.
    let store = g.S.Store in
    did_alone (export c.args.table.now) refl refl (λ text refused. refused) input input_faults (store.files c.args.store.now) (store.files c.export_answer.new.store) (store.faults c.args.store.now) (store.faults c.export_answer.new.store)
    refl (λ files. ExportReply files c.args.table.now) (λ files text e answered. (e, answered, refl)) c.export_answer.result c.export_answer.ensures.step c.export_answer.ensures.kept
