use Rattle.std.specs.Str.Parse.{ParsesUnsigned, ExplainsUnsignedError, HasUnsignedDigitsIfOk}
use Rattle.clap.specs.Words.{found_of, one_text}
use Rattle.clap.proofs.WalkLemmas.{one_text-rows}
use Rattle.command_words.proofs.Read.{number_or_none}
use Rattle.command_words.proofs.matching.number_at.Goals as goal

pub returns : goal.returns
returns c =
    rw (← (one_text-rows (found_of c.args.matches.now) c.args.id.now))
    (number_or_none (one_text (found_of c.args.matches.now) c.args.id.now) c.get_one.result
    (λ bs r. ParsesUnsigned 64 10 bs r × ExplainsUnsignedError 10 bs r × HasUnsignedDigitsIfOk bs r)
    (λ text x h. h.0) c.get_one.ensures.none c.get_one.ensures.value)
