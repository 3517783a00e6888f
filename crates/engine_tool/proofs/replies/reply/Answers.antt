use Rattle.std.proofs.Common.{map}
use Rattle.std.specs.Prelude.{string_bytes}
use Rattle.engine_tool.specs.Commands.{command_in}
use Rattle.engine_tool.specs.Ends.{inside}
use Rattle.engine_tool.proofs.DidLemmas.{did_refused}
use Rattle.engine_tool.proofs.replies.reply.Goals as goal

pub returns-in-Err-Memory : goal.returns-in-Err-Memory
returns-in-Err-Memory g c =
    did_refused (command_in (map string_bytes c.args.words.now))
    (inside (g.S.Store.files c.args.store.now) (g.S.Store.faults c.args.store.now) (g.I.Source.left c.args.input.now) (g.I.Source.faults c.args.input.now))
