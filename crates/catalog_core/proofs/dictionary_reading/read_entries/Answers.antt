use Rattle.std.proofs.Common.{◌≡◌, ◌+◌, List, ℕ, Bor, Some, None, option_map, subst, sym, arith, length, vec_len}
use Rattle.catalog_core.specs.declared.errors.DictError.TheVariants as error
use Rattle.catalog_core.specs.Dictionaries.{HasDictionaryFault}
use Rattle.catalog_core.specs.DictionaryReading.{BeginsWithEntry, LacksNext, ReadSo}
use Rattle.catalog_core.proofs.DictionaryReadLemmas.{bad_entry, read_none, read_more, has_room}
use Rattle.catalog_core.proofs.ShortTextLemmas.{same_entry}
use Rattle.catalog_core.proofs.dictionary_reading.read_entries.Goals as goal

pub loop-last-init : goal.loop-last-init
loop-last-init c = (
  subst (λ n. ReadSo c.args.bytes.now n 16 c.in_ok-starts.starts.items None) (sym c.in_ok-starts.ensures.len)
      (subst (λ items. ReadSo c.args.bytes.now 0 16 items None) (sym c.in_ok-starts.ensures.items) (read_none c.args.count c.args.bytes.now c.requires)),
  omega (arith, c.in_ok-starts.ensures.len),
  omega (arith, c.min.ensures, c.in_ok-starts.ensures.capacity),
)

pub returns-in_default-clause-fault : goal.returns-in_default-clause-fault
returns-in_default-clause-fault c = λ _.
    let last = option_map (λ (text : Bor (List ℕ)). text.now) c.loop-last.last in
    subst (λ entry. HasDictionaryFault c.args.bytes.now (error.BadEntry entry)) (sym c.len-in_default.ensures)
    (bad_entry c.args.count (vec_len c.loop-last.starts) c.loop-last.end c.args.bytes.now c.loop-last.starts.items last c.requires c.loop-last.invariant.0 (omega (arith, c.len.ensures, c.loop-last-test.true))
    (subst (LacksNext last) c.rest_from.ensures c.in_default.ensures))

pub push_reserved-requires : goal.push_reserved-requires
push_reserved-requires c =
    let last = option_map (λ (text : Bor (List ℕ)). text.now) c.loop-last.last in
    let room = has_room c.args.count (vec_len c.loop-last.starts) c.loop-last.end c.args.bytes.now c.loop-last.starts.items last c.in-Some.text.now (omega (arith, c.len.ensures, c.loop-last-test.true)) c.loop-last.invariant.0
    (subst (BeginsWithEntry c.in-Some.text.now) c.rest_from.ensures c.in-Some.ensures.0) in
    omega (arith, room, c.loop-last.invariant.2)

pub read_short_texts-found-requires-clause-so : goal.read_short_texts-found-requires-clause-so
read_short_texts-found-requires-clause-so c =
    let bytes = c.args.bytes.now in
    let starts = c.loop-last.starts in
    let end = c.loop-last.end in
    let text = c.in-Some.text.now in
    let last = option_map (λ (text : Bor (List ℕ)). text.now) c.loop-last.last in
    let begins = subst (BeginsWithEntry text) c.rest_from.ensures c.in-Some.ensures.0 in
    let so = read_more c.args.count (vec_len starts) end bytes starts.items last text c.requires.few (omega (arith, c.len.ensures, c.loop-last-test.true)) c.loop-last.invariant.0 begins c.in-Some.ensures.1 in
    let pushed = subst (λ items. ReadSo bytes (vec_len starts + 1) (end + (4 + length text)) items (Some text)) (sym c.push_reserved.ensures.items) so in
    record {
      text = text;
      so = subst (λ n. ReadSo bytes n (end + (4 + length text)) c.push_reserved.new.self.items (Some text)) (sym c.push_reserved.ensures.len) pushed;
      within = c.loop-last.invariant.0.within;
      begins = begins;
    }

pub text_read-requires : goal.text_read-requires
text_read-requires c =
    let read = c.read_short_texts-found.ensures.so in
    (read.text, subst (BeginsWithEntry read.text) (sym c.rest_from-in-loop-last.ensures) read.begins)

pub loop-last-preserved : goal.loop-last-preserved
loop-last-preserved c =
    let read = c.read_short_texts-found.ensures.so in
    let begins = subst (BeginsWithEntry read.text) (sym c.rest_from-in-loop-last.ensures) read.begins in
    let same = same_entry read.text c.text_read.result.now c.rest_from-in-loop-last.result.now begins c.text_read.ensures in (
      subst (λ text. ReadSo c.args.bytes.now (vec_len c.read_short_texts-found.new.starts) c.read_short_texts-found.result.end c.read_short_texts-found.new.starts.items (Some text)) same read.so,
      c.read_short_texts-found.ensures.few,
      omega (arith, c.read_short_texts-found.ensures.room, c.push_reserved.ensures.capacity, c.loop-last.invariant.2),
    )

pub returns-clause-ok : goal.returns-clause-ok
returns-clause-ok c =
    let last = option_map (λ (text : Bor (List ℕ)). text.now) c.loop-last.last in
    let all : vec_len c.loop-last.starts ≡ c.args.count = omega (arith, c.loop-last.invariant.1, c.len.ensures, c.loop-last-test.false) in
    (last, subst (λ n. ReadSo c.args.bytes.now n c.loop-last.end c.loop-last.starts.items last) all c.loop-last.invariant.0)
