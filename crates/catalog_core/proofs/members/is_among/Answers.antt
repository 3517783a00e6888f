use Rattle.std.proofs.Common.{rules}
use Rattle.std.specs.Str.{bytes_eq}
use Rattle.catalog_core.proofs.MemberLemmas.{list_any-map}
use Rattle.catalog_core.proofs.members.is_among.Goals as goal

pub returns : goal.returns
returns c = rw (list_any-map (λ known. bytes_eq known c.args.word.now) (λ known. known.now) c.args.words.now) (search rules)
