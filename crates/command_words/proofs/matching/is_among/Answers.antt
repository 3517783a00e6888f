use Rattle.std.proofs.Common.{rules}
use Rattle.std.specs.Str.{bytes_eq}
use Rattle.clap.proofs.WalkLemmas.{list_any-map}
use Rattle.command_words.proofs.matching.is_among.Goals as goal

pub returns : goal.returns
returns c = rw (← (list_any-map (λ one. bytes_eq one c.args.id.now) (λ one. one.now) c.args.ids.now)) (search rules)
