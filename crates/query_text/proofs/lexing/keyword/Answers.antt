use Rattle.std.proofs.Common.{arith}
use Rattle.std.specs.Str.{str_to_ascii_lowercase}
use Rattle.std.specs.Char.{to_ascii_lowercase}
use Rattle.std.proofs.lemmas.List.{length-map}
use Rattle.query_text.proofs.KeywordLemmas.{too_long}
use Rattle.query_text.proofs.lexing.keyword.Goals as goal

pub returns-then-word-gt7 : goal.returns-then-word-gt7
returns-then-word-gt7 c = too_long (str_to_ascii_lowercase c.args.word.now) (omega (arith, length-map c.args.word.now to_ascii_lowercase))
