use Rattle.std.proofs.Common.{◌≡◌, ℕ, ◌+◌, ◌-◌, ◌*◌, ◌^◌, ◌<◌, length, get_or, sym, subst, ap, ◌∙◌, arith}
use Rattle.std.proofs.lemmas.List.{get_or-replicate, length-replicate}
use Rattle.strand_pack.proofs.LaneLaws.{loaded_at}
use Rattle.strand_pack.proofs.BegunStrands.{AreBegun-none, AreBegun-inside, AreBegun-full, AreBegun-at, AreEncoded-from_begun, IsRow, AreWritten}
use Rattle.strand_pack.proofs.packing.pack_strands.Goals as goal
use Rattle.strand_pack.proofs.packing.pack_strands.Goals.{then-width-room, else-width-room}

pub loop-row-init : goal.loop-row-init
loop-row-init g c =
    AreBegun-none c.args.width c.args.first g.row.L c.args.full.now c.args.into.now c.splat-words.result (ap length c.splat-words.ensures ∙ length-replicate g.row.L 0)
    (λ lane within. ap (λ l. get_or l lane 0) c.splat-words.ensures ∙ get_or-replicate g.row.L lane 0 0 within)

pub loop-row-preserved : goal.loop-row-preserved
loop-row-preserved g c =
    let width = c.args.width in
    let first = c.args.first in
    let row = c.loop-row.row in
    let full = c.args.full.now in
    let read : (lane : ℕ) → lane < g.row.L → get_or c.load-values.result lane 0 ≡ get_or full (row * 16 + (first + lane)) 0 = λ lane within.
    let place : row * 16 + first + lane ≡ row * 16 + (first + lane) = omega arith in
    loaded_at c.load-values.result full g.row.L (length full - (row * 16 + first)) (row * 16 + first) lane c.load-values.ensures within (omega arith) ∙ ap (λ k. get_or full k 0) place in
    let new : IsRow width first g.row.L row c.loop-row.bits full c.loop-row.words c.load-values.result c.put_above-words.result = record {
      read = read;
      small = λ lane within. subst (λ v. v < 2 ^ width) (sym (read lane within)) (c.requires.small (row * 16 + (first + lane)) (omega arith));
      lanes = c.put_above-words.ensures.lanes;
      each = c.put_above-words.ensures.each;
    } in
    elim c.if-width-room.branch [
      | then-width-room w ↦
          AreBegun-at width first g.row.L (row + 1) c.loop-row.line (c.loop-row.bits + width) c.if-width-room.line c.if-width-room.bits full c.loop-row.into c.put_above-words.result c.args.into.now c.if-width-room.into c.if-width-room.words
          (AreBegun-inside width first g.row.L row c.loop-row.line c.loop-row.bits full c.loop-row.into c.loop-row.words c.args.into.now c.load-values.result c.put_above-words.result c.loop-row.invariant new (omega (arith, w.if-width-room.true)))
          w.line-is w.bits-is w.into-is w.words-is
      | else-width-room w ↦
          let wrote : AreWritten first g.row.L c.loop-row.line c.loop-row.into c.put_above-words.result w.put_words.new.into = record {
            written = w.put_words.ensures.written;
            below = w.put_words.ensures.below;
            above = w.put_words.ensures.above;
          } in
          AreBegun-at width first g.row.L (row + 1) (c.loop-row.line + 1) (width - (64 - c.loop-row.bits)) c.if-width-room.line c.if-width-room.bits full w.put_words.new.into w.high_bits-words.result c.args.into.now c.if-width-room.into c.if-width-room.words
          (AreBegun-full width first g.row.L row c.loop-row.line c.loop-row.bits full c.loop-row.into c.loop-row.words c.args.into.now c.load-values.result c.put_above-words.result w.put_words.new.into w.high_bits-words.result
          c.loop-row.invariant new wrote c.requires.strands (omega (arith, w.if-width-room.false, c.loop-row.invariant.room)) c.requires.narrow w.high_bits-words.ensures.lanes w.high_bits-words.ensures.each)
          w.line-is w.bits-is w.into-is w.words-is
    ]

pub returns-clause-encoded : goal.returns-clause-encoded
returns-clause-encoded g c =
    AreEncoded-from_begun c.args.width c.args.first g.row.L c.loop-row.row c.loop-row.line c.loop-row.bits c.args.full.now c.loop-row.into c.loop-row.words _ c.loop-row.invariant (omega arith) c.requires.strands c.requires.whole
    c.requires.small c.bytes_fit.ensures
