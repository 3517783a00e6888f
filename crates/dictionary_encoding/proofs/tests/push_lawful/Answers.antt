use Rattle.std.proofs.Common.{◌∙◌, ◌++◌, ◌∷◌, [], sym, ap, subst}
use Rattle.std.specs.List.{AllByRecursion}
use Rattle.std.proofs.lemmas.List.Elements.{All-from_recursion, All-push, recursion_from_All}
use Rattle.catalog_core.specs.Texts.{Text, IsText}
use Rattle.dictionary_encoding.proofs.tests.push_lawful.Goals as goal

pub returns : goal.returns
returns c =
    let old = c.args.column.now in
    let text = c.args.text.now in
    let lawful : IsText text = record { short = c.requires.short; utf8 = c.utf8.text } in
    let pushed = c.in_ok-push.ensures.pushed ∙ ap (λ (one : Text). old ++ one ∷ []) c.as_bytes.ensures.value in
    subst (AllByRecursion IsText) (sym pushed) (recursion_from_All IsText (old ++ text ∷ []) (All-push IsText old text (All-from_recursion IsText old c.requires.lawful) lawful))
