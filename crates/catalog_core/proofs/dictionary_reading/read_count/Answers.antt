use Rattle.std.proofs.Common.{arith}
use Rattle.catalog_core.proofs.DictionaryReadLemmas.{too_short, no_head}
use Rattle.catalog_core.proofs.dictionary_reading.read_count.Goals as goal

pub returns-then-bytes-lt-HEAD_LEN : goal.returns-then-bytes-lt-HEAD_LEN
returns-then-bytes-lt-HEAD_LEN c = too_short c.args.bytes.now c.if-bytes-lt-HEAD_LEN.true

pub returns-then-count-gt-MAX_ROWS : goal.returns-then-count-gt-MAX_ROWS
returns-then-count-gt-MAX_ROWS c = no_head c.args.bytes.now c.count_in-count.result c.count_in-count.ensures (λ few taken. omega (arith, few, c.if-count-gt-MAX_ROWS.true))

pub returns-then-not-is_head : goal.returns-then-not-is_head
returns-then-not-is_head c = no_head c.args.bytes.now c.count_in-count.result c.count_in-count.ensures (λ few taken. let is = c.is_head.ensures.1 taken in cc (is, c.if-not-is_head.true))
