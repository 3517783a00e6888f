use Rattle.std.proofs.Common.{ap, sym, ◌∙◌, arith}
use Rattle.std.proofs.lemmas.List.{get_or-map, length-map}
use Rattle.std.proofs.lemmas.List.Folds.{list_all_at}
use Rattle.std.specs.Char.{to_ascii_lowercase}
use Rattle.std.specs.Str.{str_to_ascii_lowercase}
use Rattle.stream_core.specs.Names.{is_name_byte}
use Rattle.engine_tool.proofs.text.lower_case.Goals as goal

pub returns-then-not-is_name_byte : goal.returns-then-not-is_name_byte
returns-then-not-is_name_byte c =
    let word = c.args.word.now in
    let at = c.loop-byte.byte-index in
    list_all_at is_name_byte (str_to_ascii_lowercase word) at 0 (omega (arith, length-map word to_ascii_lowercase))
    (ap is_name_byte (get_or-map to_ascii_lowercase word at 0 0 (omega arith)) ∙ ap is_name_byte (sym c.to_ascii_lowercase-byte.ensures.value) ∙ sym c.is_name_byte.ensures ∙ c.if-not-is_name_byte.true)
