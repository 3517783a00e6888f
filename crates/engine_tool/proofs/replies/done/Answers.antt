use Rattle.engine_tool.proofs.replies.done.Goals as goal

pub returns-in-Help : goal.returns-in-Help
returns-in-Help g c =
    rw c.in-Help.is
    (c.help.ensures (g.S.Store.files c.args.store.now) (g.S.Store.faults c.args.store.now) (g.I.Source.left c.args.input.now) (g.I.Source.faults c.args.input.now))
