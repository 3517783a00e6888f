use Rattle.std.proofs.Common.{◌≡◌, ◌∙◌, ℕ, Vec, Global, [], sym, ap, subst, get_or, arith}
use Rattle.std.specs.List.{Contains}
use Rattle.std.proofs.lemmas.List.{get_or-map, length-map}
use Rattle.dictionary_encoding.specs.Numbers.{texts_of}
use Rattle.dictionary_encoding.proofs.coding.codes_of.Goals as goal

pub code_of-requires : goal.code_of-requires
code_of-requires c =
    let see = λ (v : Vec ℕ Global). v.items in
    let i = c.loop-text.text-index in
    let texts = c.args.texts.now in
    let at : get_or (texts_of texts) i [] ≡ c.as_slice.result.now = get_or-map see texts i c.text-item.result [] (omega arith) ∙ ap see (sym c.text-item.is) ∙ sym c.as_slice.ensures.value in
    subst (Contains c.args.dictionary.now) at (c.requires i [] (omega (arith, length-map texts see)))
