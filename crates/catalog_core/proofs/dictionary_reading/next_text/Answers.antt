use Rattle.std.proofs.Common.{◌∙◌, List, ℕ, Bor, sym, ap, option_map}
use Rattle.std.proofs.lemmas.Bool.{both_ways}
use Rattle.catalog_core.specs.DictionaryReading.{may_follow}
use Rattle.catalog_core.proofs.DictionaryFileLemmas.{entry_one}
use Rattle.catalog_core.proofs.dictionary_reading.next_text.Goals as goal

pub returns-else-follows : goal.returns-else-follows
returns-else-follows c = λ text more lawful follows is.
    let last = option_map (λ (text : Bor (List ℕ)). text.now) c.args.last in
    let same = (entry_one c.in_ok-text.text.now text _ more c.in_ok-text.ensures.lawful lawful (sym c.in_ok-text.ensures.bytes_are ∙ is)).0 in
    both_ways c.follows.result c.if-follows.false (c.follows.ensures ∙ ap (may_follow last) same ∙ follows)
