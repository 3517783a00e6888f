use Rattle.std.proofs.Common.{◌≡◌, ◌∙◌, sym, ap, subst, map, get_or, Some, slice_get, arith}
use Rattle.std.specs.List.{All, AllByRecursion, Contains}
use Rattle.std.proofs.lemmas.List.{with_items_is, length-map}
use Rattle.catalog_core.specs.Texts.{IsText}
use Rattle.catalog_core.specs.Dictionaries.{AreDistinctTextsOf}
use Rattle.dictionary_encoding.specs.Numbers.{texts_of}
use Rattle.dictionary_encoding.proofs.NumberLemmas.{lawful_distinct}
use Rattle.dictionary_encoding.proofs.CodeLemmas.{distinct_have_codes, length_codes, coded_by_numbers}
use Rattle.dictionary_encoding.proofs.encoder.DictionaryEncoder.finish.Goals as goal

pub dictionary_of-requires-clause-lawful : goal.dictionary_of-requires-clause-lawful
dictionary_of-requires-clause-lawful c =
    let distinct = texts_of c.self.inside.distinct.keys in
    let lawful = lawful_distinct distinct c.self.inside.numbers.items c.self.invariant (subst (AllByRecursion IsText) (sym c.self.view_is) c.requires.lawful) in
    subst (λ keys. AllByRecursion IsText (texts_of keys)) (sym c.as_slice.ensures.keys) lawful

pub codes_of-requires : goal.codes_of-requires
codes_of-requires c =
    let distinct = texts_of c.self.inside.distinct.keys in
    let dictionary = c.in_ok-dictionary.dictionary in
    let made : AreDistinctTextsOf distinct dictionary = subst (λ keys. AreDistinctTextsOf (texts_of keys) dictionary) c.as_slice.ensures.keys c.in_ok-dictionary.ensures in
    subst (λ keys. All (Contains dictionary) (texts_of keys)) (sym c.as_slice-2.ensures.keys) (distinct_have_codes distinct dictionary made)

pub replace-requires : goal.replace-requires
replace-requires c =
    let distinct = texts_of c.self.inside.distinct.keys in
    let dictionary = c.in_ok-dictionary.dictionary in
    let codes = c.in_ok-codes.codes.items in
    let coded : map (slice_get dictionary) codes ≡ map Some distinct = c.in_ok-codes.ensures ∙ ap (λ keys. map Some (texts_of keys)) c.as_slice-2.ensures.keys in
    rw (c.as_mut_slice.ensures.value, c.as_slice-3.ensures.value, length_codes distinct dictionary codes coded) c.self.invariant.within

pub returns : goal.returns
returns c =
    let distinct = texts_of c.self.inside.distinct.keys in
    let dictionary = c.in_ok-dictionary.dictionary in
    let codes = c.in_ok-codes.codes.items in
    let made : AreDistinctTextsOf distinct dictionary = subst (λ keys. AreDistinctTextsOf (texts_of keys) dictionary) c.as_slice.ensures.keys c.in_ok-dictionary.ensures in
    let coded : map (slice_get dictionary) codes ≡ map Some distinct = c.in_ok-codes.ensures ∙ ap (λ keys. map Some (texts_of keys)) c.as_slice-2.ensures.keys in
    let whole = coded_by_numbers distinct dictionary codes c.self.inside.numbers.items c.self.invariant made coded in
    let numbers = c.self.inside.numbers in
    let replaced = map (λ number. get_or codes number 0) numbers.items in
    let items = with_items_is numbers replaced (omega (arith, length-map numbers.items (λ number. get_or codes number 0), numbers.ok)) in
    rw (c.from_vec.ensures, c.replace.ensures, c.as_mut_slice.ensures.value, c.as_slice-3.ensures.value, ← c.self.view_is, items) whole
