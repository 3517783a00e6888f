use Rattle.std.proofs.Common.{◌≡◌, ◌≤◌, true, length, take, drop, refl, ap, subst, ◌∙◌}
use Rattle.definitions_blocks.specs.Formats.{LacksBlock, BlockOf}
use Rattle.definitions_columns.specs.FileFaults.{bad_directory, bad_block}
use Rattle.block_core.specs.Formats.{format_of}
use Rattle.column_core.specs.Heads.{version_of}
use Rattle.column_file.proofs.ReadLemmas.{read_none, read_more}
use Rattle.column_file.proofs.FaultLemmas.{wrong_entry, no_block}
use Rattle.column_file.proofs.blocks.read_blocks.Goals as goal

pub loop-block-init : goal.loop-block-init
loop-block-init c =
    let h = c.args.head in
    read_none (version_of h.version) (format_of h.format) h.static_width h.count c.first_start-end.result c.args.bytes.now c.first_start-end.ensures

pub returns-then-not-starts_at-clause-fault : goal.returns-then-not-starts_at-clause-fault
returns-then-not-starts_at-clause-fault c =
    let h = c.args.head in
    let l = c.loop-block in (
      bad_directory l.block,
      refl,
      wrong_entry (version_of h.version) (format_of h.format) h.static_width h.tail_width h.count l.block l.end l.widest c.args.bytes.now c.requires l.invariant c.loop-block-test.true
          (λ named. let yes = c.starts_at.ensures.1 named in cc (yes, c.if-not-starts_at.true)),
    )

pub returns-in-None-clause-fault : goal.returns-in-None-clause-fault
returns-in-None-clause-fault c =
    let h = c.args.head in
    let l = c.loop-block in
    let yes : c.starts_at.result ≡ true = cc in (
      bad_block l.block,
      refl,
      no_block (version_of h.version) (format_of h.format) h.static_width h.tail_width h.count l.block l.end l.widest c.args.bytes.now c.requires l.invariant c.loop-block-test.true
          (c.starts_at.ensures.0 yes) (subst (LacksBlock (format_of h.format) h.static_width) c.rest_from-rest.ensures c.in-None.ensures),
    )

pub loop-block-preserved : goal.loop-block-preserved
loop-block-preserved c =
    let h = c.args.head in
    let l = c.loop-block in
    let f = format_of h.format in
    let values = c.in-Some.ensures.values in
    let yes : c.starts_at.result ≡ true = cc in
    let part : c.part.result.now ≡ take c.in-Some.len (drop l.end c.args.bytes.now) = c.part.ensures ∙ ap (take c.in-Some.len) c.rest_from-rest.ensures in
    let encoded : BlockOf f h.static_width values (take c.in-Some.len (drop l.end c.args.bytes.now)) =
    subst (λ b. BlockOf f h.static_width values (take c.in-Some.len b)) c.rest_from-rest.ensures c.in-Some.ensures.encoded in
    read_more (version_of h.version) f h.static_width h.count l.block l.end l.widest c.in-Some.len c.widened-widest.result c.args.bytes.now values l.invariant
    (c.starts_at.ensures.0 yes) encoded (subst (λ b. c.in-Some.len ≤ length b) c.rest_from-rest.ensures c.in-Some.ensures.within)
    (c.widened-widest.ensures values (rw part encoded))
