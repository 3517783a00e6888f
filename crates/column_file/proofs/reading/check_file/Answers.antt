use Rattle.std.proofs.Common.{◌≡◌, ◌%◌, true, refl, subst}
use Rattle.definitions_blocks.specs.Blocks.{block_values}
use Rattle.definitions_columns.specs.FileFaults.{bad_width, bad_tail}
use Rattle.block_core.specs.Formats.{format_of}
use Rattle.column_core.specs.Heads.{version_of}
use Rattle.column_file.specs.Reading.{IsTail}
use Rattle.column_file.proofs.FaultLemmas.{wrong_width, wrong_tail, whole_file}
use Rattle.column_file.proofs.reading.check_file.Goals as goal

pub returns-then-found-head-clause-fault : goal.returns-then-found-head-clause-fault
returns-then-found-head-clause-fault c =
    let h = c.in-Some.head in
    let found = c.in_ok-found.found in (
      bad_width,
      refl,
      wrong_width (version_of h.version) (format_of h.format) h.static_width h.tail_width h.count found.end found.widest c.args.bytes.now c.in-Some.ensures c.in_ok-found.ensures.ok c.if-found-head.true,
    )

pub returns-then-not-is_tail-clause-fault : goal.returns-then-not-is_tail-clause-fault
returns-then-not-is_tail-clause-fault c =
    let h = c.in-Some.head in
    let found = c.in_ok-found.found in (
      bad_tail,
      refl,
      wrong_tail (version_of h.version) (format_of h.format) h.static_width h.tail_width h.count found.end found.widest c.args.bytes.now c.in-Some.ensures c.in_ok-found.ensures.ok c.if-found-head.false
          (λ tail. let yes = c.is_tail.ensures.1 (rw c.rest_from.ensures tail) in cc (yes, c.if-not-is_tail.true)),
    )

pub returns-clause-ok : goal.returns-clause-ok
returns-clause-ok c =
    let h = c.in-Some.head in
    let found = c.in_ok-found.found in
    let yes : c.is_tail.result ≡ true = cc in
    let file = whole_file (version_of h.version) (format_of h.format) h.static_width h.tail_width h.count found.end found.widest c.args.bytes.now c.in-Some.ensures c.in_ok-found.ensures.ok c.if-found-head.false
    (subst (IsTail (version_of h.version) (format_of h.format) h.tail_width (h.count % block_values)) c.rest_from.ensures (c.is_tail.ensures.0 yes)) in
    (h.format, file.0, file.1)
