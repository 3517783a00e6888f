use Rattle.std.proofs.Common.{◌≡◌, ◌∙◌, sym, ap, true, false, length}
use Rattle.std.proofs.lemmas.Bool.{le-leb, lt-leb}
use Rattle.stream_core.specs.Names.{begins_with_letter, is_keyword, is_name_byte}
use Rattle.std.specs.List.{list_all}
use Rattle.stream_core.proofs.NameLemmas.{and_false, and_true}
use Rattle.stream_core.proofs.names.is_name.Goals as goal

pub returns-then-text-gt31 : goal.returns-then-text-gt31
returns-then-text-gt31 c =
    let text = c.args.text.now in
    let letter : begins_with_letter text ≡ true = rw c.as_bytes.ensures.value at (sym c.begins_with_letter.ensures ∙ c.if-not-begins_with_letter.false) in
    rw (letter, lt-leb (length text) 31 c.if-text-gt31.true, and_false _)

pub returns-then-is_keyword : goal.returns-then-is_keyword
returns-then-is_keyword c =
    let text = c.args.text.now in
    let keyword : is_keyword text ≡ true = sym c.is_keyword.ensures ∙ c.if-is_keyword.true in
    rw keyword (sym (and_false _))

pub returns : goal.returns
returns c =
    let text = c.args.text.now in
    let letter : begins_with_letter text ≡ true = rw c.as_bytes.ensures.value at (sym c.begins_with_letter.ensures ∙ c.if-not-begins_with_letter.false) in
    let keyword : is_keyword text ≡ false = sym c.is_keyword.ensures ∙ c.if-is_keyword.false in
    rw (letter, le-leb (length text) 31 c.if-text-gt31.false, keyword, and_true, and_true) (c.has_name_bytes.ensures ∙ ap (list_all is_name_byte) c.as_bytes-2.ensures.value)
