use Rattle.std.proofs.Common.{map}
use Rattle.std.specs.Prelude.{string_bytes}
use Rattle.engine_tool.specs.Commands.{command_in}
use Rattle.engine_tool.specs.Promises.{Outside}
use Rattle.engine_tool.specs.Ends.{outside}
use Rattle.engine_tool.proofs.RunLemmas.{promises}
use Rattle.engine_tool.proofs.running.run.Goals as goal

pub returns : goal.returns
returns g c =
    let before : Outside = outside (g.S.Store.files c.args.store.now) (g.S.Store.faults c.args.store.now) (g.I.Source.left c.args.input.now) (g.I.Source.faults c.args.input.now)
    (g.O.Sink.taken c.args.out.now) (g.O.Sink.faults c.args.out.now) in
    let after : Outside = outside (g.S.Store.files c.reply-end.new.store) (g.S.Store.faults c.reply-end.new.store) (g.I.Source.left c.reply-end.new.input) (g.I.Source.faults c.reply-end.new.input)
    (g.O.Sink.taken c.respond.new.out) (g.O.Sink.faults c.respond.new.out) in
    record { promises = promises (command_in (map string_bytes c.args.words.now)) before after c.reply-end.result c.respond.result c.reply-end.ensures (c.respond.ensures before.inside after.inside) }
