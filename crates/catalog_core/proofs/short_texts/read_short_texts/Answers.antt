use Rattle.std.proofs.Common.{◌≡◌, ◌<◌, ◌+◌, refl, sym, subst, arith, Some, vec_len}
use Rattle.catalog_core.specs.DictionaryReading.{BeginsWithEntry}
use Rattle.catalog_core.specs.ShortTexts.{number_of, BeginsWithShort, ReadUpTo}
use Rattle.catalog_core.proofs.DictionaryReadLemmas.{has_room}
use Rattle.catalog_core.proofs.ShortTextLemmas.{number_here, read_short}
use Rattle.catalog_core.proofs.short_texts.read_short_texts.Goals as goal

pub loop-entry-init : goal.loop-entry-init
loop-entry-init c =
    let read = c.requires.so in (
      (read, number_here read.text c.rest_from.result.now c.in-Some.first.len c.in-Some.first.number (subst (BeginsWithEntry read.text) (sym c.rest_from.ensures) read.begins) c.in-Some.ensures),
      sym c.len-entry.ensures,
      omega (arith, c.len-entry.ensures),
      omega (arith, c.len-entry.ensures, c.requires.few),
      refl,
      c.requires.room,
    )

pub rest_from-requires-in-loop-entry : goal.rest_from-requires-in-loop-entry
rest_from-requires-in-loop-entry c = c.loop-entry.invariant.0.0.so.within

pub push_reserved-requires : goal.push_reserved-requires
push_reserved-requires c =
    let starts = c.loop-entry.starts in
    let read = c.loop-entry.invariant.0.0 in
    let short = subst (λ bytes. BeginsWithShort bytes c.in-Some-short_text.next.len c.in-Some-short_text.next.number) c.rest_from-in-loop-entry.ensures c.in-Some-short_text.ensures in
    let below : vec_len starts < c.args.count = omega (arith, c.loop-entry.invariant.1, c.loop-entry-test.true) in
    omega (arith, has_room c.args.count (vec_len starts) c.loop-entry.end c.args.bytes.now starts.items (Some read.text) short.text below read.so short.begins, c.loop-entry.invariant.5)

pub loop-entry-preserved : goal.loop-entry-preserved
loop-entry-preserved c =
    let starts = c.loop-entry.starts in
    let next = c.in-Some-short_text.next in
    let end = c.loop-entry.end in
    let bytes = c.args.bytes.now in
    let short = subst (λ bytes. BeginsWithShort bytes next.len next.number) c.rest_from-in-loop-entry.ensures c.in-Some-short_text.ensures in
    let below : vec_len starts < c.args.count = omega (arith, c.loop-entry.invariant.1, c.loop-entry-test.true) in
    let more = read_short c.args.count (vec_len starts) c.loop-entry.start end next.len c.loop-entry.number next.number bytes starts.items c.requires.head.few below (λ k. (c.type_inv.bytes k).fits) c.loop-entry.invariant.0.0
    c.loop-entry.invariant.0.1 short c.if-next-number.false in
    let pushed = subst (λ items. (read : ReadUpTo bytes (vec_len starts + 1) end (end + (4 + next.len)) items) × (next.number ≡ number_of 16 read.text)) (sym c.push_reserved.ensures.items) more in (
      subst (λ n. (read : ReadUpTo bytes n end (end + (4 + next.len)) c.push_reserved.new.self.items) × (next.number ≡ number_of 16 read.text)) (sym c.push_reserved.ensures.len) pushed,
      omega (arith, c.push_reserved.ensures.len, c.loop-entry.invariant.1),
      omega (arith, c.loop-entry.invariant.2),
      omega (arith, c.loop-entry-test.true),
      omega (arith, c.push_reserved.ensures.capacity, c.loop-entry.invariant.4),
      omega (arith, c.push_reserved.ensures.capacity, c.loop-entry.invariant.5),
    )

pub returns-after-loop-entry-clause-so : goal.returns-after-loop-entry-clause-so
returns-after-loop-entry-clause-so c = c.loop-entry.invariant.0.0

pub returns-in_default-short_text-clause-so : goal.returns-in_default-short_text-clause-so
returns-in_default-short_text-clause-so c = c.loop-entry.invariant.0.0

pub returns-then-next-number-clause-so : goal.returns-then-next-number-clause-so
returns-then-next-number-clause-so c = c.loop-entry.invariant.0.0
