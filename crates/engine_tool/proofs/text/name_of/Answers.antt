use Rattle.std.proofs.Common.{arith}
use Rattle.std.proofs.lemmas.List.{length-map}
use Rattle.std.specs.Char.{to_ascii_lowercase}
use Rattle.std.specs.Str.{str_to_ascii_lowercase}
use Rattle.engine_tool.proofs.TextLemmas.{name_short}
use Rattle.engine_tool.proofs.text.name_of.Goals as goal

pub returns-then-word-gt31 : goal.returns-then-word-gt31
returns-then-word-gt31 c = λ lawful.
    let word = c.args.word.now in
    absurd (omega (arith, name_short (str_to_ascii_lowercase word) lawful, length-map word to_ascii_lowercase))
