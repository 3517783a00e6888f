use Rattle.std.proofs.Common.{◌++◌, [], ◌∷◌, arith, length-append}
use Rattle.size_chooser.proofs.TallyLemmas.{IsSplit-more}
use Rattle.size_chooser.proofs.tallies.Tally.push.Goals as goal

pub close-requires-clause-room : goal.close-requires-clause-room
close-requires-clause-room g c =
    let list = c.requires.0 in
    let tally = c.args.self.now in
    let more = c.args.value ∷ [] in (
      list ++ more,
      IsSplit-more g.M.Meter.measured tally.block c.push.new.self tally.meter list more c.requires.1.split c.push.ensures,
      omega (arith, length-append list more, c.requires.2),
    )
