use Rattle.std.proofs.Common.{◌≡◌, ◌+◌, ◌++◌, ◌∷◌, [], length, take, sym, ap, ◌∙◌, rules, arith, length-append}
use Rattle.std.proofs.lemmas.List.{append_assoc, take_all}
use Rattle.catalog_core.specs.Indexed.{starts_from}
use Rattle.catalog_core.specs.Dictionaries.{entry_of, entries_of, dictionary_head}
use Rattle.catalog_core.proofs.DictionaryFileLemmas.{length-dictionary_head}
use Rattle.catalog_core.proofs.DictionaryMakingLemmas.{entries_more, starts_more, file_whole}
use Rattle.catalog_core.proofs.dictionary_making.file_of.Goals as goal

pub loop-text-preserved : goal.loop-text-preserved
loop-text-preserved c =
    let texts = c.args.texts.now in
    let text = c.text-item.result in
    let i = c.loop-text.text-index in
    let head = dictionary_head (length texts) in
    let added : c.push_entry.new.bytes.items ≡ c.loop-text.bytes.items ++ entry_of c.as_slice.result.now = c.in_ok-push_entry.ensures in
    let pushed : c.push.new.self.items ≡ c.loop-text.starts.items ++ c.len.result ∷ [] = search rules in
    let place : c.len.result ≡ 16 + length (entries_of (take i texts)) =
    omega (arith, c.len.ensures, c.loop-text.bytes.ok.0, ap length c.loop-text.invariant.bytes_are, length-append head (entries_of (take i texts)), length-dictionary_head (length texts)) in
    record {
      bytes_are = added ∙ ap (λ l. l ++ entry_of c.as_slice.result.now) c.loop-text.invariant.bytes_are ∙ append_assoc head (entries_of (take i texts)) (entry_of c.as_slice.result.now)
          ∙ ap (λ one. head ++ (entries_of (take i texts) ++ entry_of one)) c.as_slice.ensures ∙ ap (λ l. head ++ l) (sym (entries_more texts i text c.loop-text-test.true c.text-item.is));
      starts_are = pushed ∙ ap (λ l. l ++ c.len.result ∷ []) c.loop-text.invariant.starts_are ∙ ap (λ n. starts_from 16 (take i texts) ++ n ∷ []) place ∙ sym (starts_more texts i text c.loop-text-test.true c.text-item.is);
    }

pub returns : goal.returns
returns c =
    let texts = c.args.texts.now in
    let all = take_all c.loop-text.text-index texts (omega arith) in
    file_whole texts c.loop-text.bytes.items c.loop-text.starts.items c.requires (c.loop-text.invariant.bytes_are ∙ ap (λ one. dictionary_head (length texts) ++ entries_of one) all) (c.loop-text.invariant.starts_are ∙ ap (starts_from 16) all)
