use Rattle.std.proofs.Common.{get_or, take, refl, arith}
use Rattle.column_core.specs.Heads.{version_of, tail_width_said}
use Rattle.column_core.proofs.HeadLemmas.{shows, asks, no_format}
use Rattle.column_core.proofs.heads.read_head.Goals as goal
use Rattle.column_core.proofs.heads.read_head.Goals.{else-is_lawful-via-then-is_lawful+else-is_head, else-is_lawful-via-else-is_lawful}

pub returns-then-bytes-lt-HEAD_LEN : goal.returns-then-bytes-lt-HEAD_LEN
returns-then-bytes-lt-HEAD_LEN c = λ v f width tail_width count rest head e.
    let at = shows v f width tail_width count c.args.bytes.now rest head e in
    omega (arith, at.long, c.if-bytes-lt-HEAD_LEN.true)

pub returns-in-None-from_tag : goal.returns-in-None-from_tag
returns-in-None-from_tag c = λ v f width tail_width count rest head e.
    let at = shows v f width tail_width count c.args.bytes.now rest head e in
    no_format f _ at.tag c.in-None-from_tag.ensures

pub returns-else-is_lawful : goal.returns-else-is_lawful
returns-else-is_lawful c = λ v f width tail_width count rest head e.
    let is =
    asks v (version_of c.in-Some.version) f width tail_width count c.args.bytes.now rest c.in-Some-from_tag.format (get_or (take 16 c.args.bytes.now) 6 0) c.tail_width_in.result c.word_at.result head e
    c.in-Some.ensures c.in-Some-from_tag.ensures refl c.tail_width_in.ensures c.word_at.ensures in
    let lawful = c.is_lawful.ensures.1 is.head in
    elim c.else-is_lawful.branch [
      | else-is_lawful-via-then-is_lawful+else-is_head w ↦ let same = w.is_head.ensures.1 is.taken in cc (same, w.if-is_head.false)
      | else-is_lawful-via-else-is_lawful w ↦ cc (lawful, w.if-is_lawful.false)
    ]
