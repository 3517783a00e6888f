use Rattle.std.proofs.Common.{◌≤◌, length, sym, subst}
use Rattle.std.specs.List.{dedup}
use Rattle.std.specs.Str.{bytes_eq}
use Rattle.catalog_core.specs.Dictionaries.{AreDistinctTextsOf}
use Rattle.catalog_core.proofs.DictionaryMakingLemmas.{distinct_of_sorted}
use Rattle.catalog_core.proofs.dictionary_making.sort_distinct.Goals as goal

pub returns : goal.returns
returns c =
    let sorted = c.sort.new.texts.items in
    let fewer : length (dedup bytes_eq sorted) ≤ length sorted = subst (λ texts. length texts ≤ length sorted) c.drop_repeated.ensures.kept c.drop_repeated.ensures.fewer in
    subst (AreDistinctTextsOf c.args.texts.now.items) (sym c.drop_repeated.ensures.kept) (distinct_of_sorted c.args.texts.now.items sorted c.requires.few c.requires.lawful c.sort.ensures.permutation c.sort.ensures.sorted fewer)
