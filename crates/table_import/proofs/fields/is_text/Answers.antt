use Rattle.std.proofs.Common.{◌≡◌, ◌∙◌, sym}
use Rattle.std.specs.Str.{IsValidUpTo, valid_up_to}
use Rattle.std.proofs.lemmas.Str.{IsUtf8-from_ascii, is_utf8-from_IsUtf8}
use Rattle.table_import.proofs.TextLemmas.{is_ok_utf8}
use Rattle.table_import.proofs.fields.is_text.Goals as goal

pub returns-then-is_ascii : goal.returns-then-is_ascii
returns-then-is_ascii c =
    let field = c.args.field.now in
    c.if-is_ascii.true ∙ sym (is_utf8-from_IsUtf8 field (IsUtf8-from_ascii field c.if-is_ascii.ensures.cases))

pub returns-else-is_ascii : goal.returns-else-is_ascii
returns-else-is_ascii c = c.is_ok.ensures.value ∙ is_ok_utf8 (λ text. text.now ≡ c.args.field.now) (λ error. IsValidUpTo c.args.field.now (valid_up_to error)) c.args.field.now c.from_utf8.result c.from_utf8.ensures.cases
