use Rattle.std.proofs.Common.{◌++◌, List, ℕ, length, take, ap, ◌∙◌, arith, length-append}
use Rattle.std.proofs.lemmas.List.{length-take}
use Rattle.size_chooser.proofs.TallyLemmas.{IsSplit-more}
use Rattle.size_chooser.proofs.tallies.Tally.take_some.Goals as goal

pub take_block-requires-clause-full : goal.take_block-requires-clause-full
take_block-requires-clause-full g c = omega (arith, ap length c.first_of.ensures, length-take 1024 c.args.values.now)

pub take_block-requires-clause-room : goal.take_block-requires-clause-room
take_block-requires-clause-room g c =
    (c.requires.room.0, c.requires.room.1, omega (arith, c.requires.room.2, ap length c.first_of.ensures, length-take 1024 c.args.values.now))

pub close-requires-clause-room : goal.close-requires-clause-room
close-requires-clause-room g c =
    let list = c.requires.room.0 in
    let tally = c.args.self.now in
    let more = take c.min-count.result c.args.values.now in (
      list ++ more,
      IsSplit-more g.M.Meter.measured tally.block c.append.new.self tally.meter list more c.requires.room.1.split (c.append.ensures ∙ ap (λ (l : List ℕ). tally.block ++ l) c.first_of-2.ensures),
      omega (arith, length-append list more, length-take c.min-count.result c.args.values.now, c.requires.room.2),
    )
