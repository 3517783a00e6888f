use Rattle.std.proofs.Common.{◌≡◌, ◌*◌, ◌^◌, ◌<◌, ◌+◌, ◌-◌, get_or, length, refl, ap, arith}
use Rattle.definitions_columns.specs.Tails.{packed_len}
use Rattle.tail_pack.proofs.BegunTails.{IsBegun-none, IsBegun-at, IsBegun-inside, IsBegun-full, IsPackedTail-from_begun}
use Rattle.tail_pack.proofs.packing.pack_values.Goals as goal
use Rattle.tail_pack.proofs.packing.pack_values.Goals.{then-width-room, else-width-room}

pub loop-value-init : goal.loop-value-init
loop-value-init c = IsBegun-none c.args.width c.args.values.now c.args.into.now

pub loop-value-preserved : goal.loop-value-preserved
loop-value-preserved c =
    let values = c.args.values.now in
    let width = c.args.width in
    let count = c.loop-value.value-index in
    let written = c.loop-value.written in
    let bits = c.loop-value.bits in
    let waiting = c.loop-value.waiting in
    let into = c.loop-value.into in
    let value = get_or values count 0 in
    let small : get_or values count 0 < 2 ^ width = c.requires.small count (omega arith) in
    elim c.if-width-room.branch [
      | then-width-room w ↦
          IsBegun-at width (count + 1) written (bits + width) _ c.if-width-room.written c.if-width-room.bits c.if-width-room.waiting values into c.if-width-room.into
          (IsBegun-inside width count written bits waiting value _ values into c.loop-value.invariant refl small w.if-width-room.true refl)
          w.written-is w.bits-is w.waiting-is w.into-is
      | else-width-room w ↦
          IsBegun-at width (count + 1) (written + 8) (width - (64 - bits)) w.high_bits-waiting.result c.if-width-room.written c.if-width-room.bits c.if-width-room.waiting values w.put_word.new.into c.if-width-room.into
          (IsBegun-full width count written bits waiting value _ w.high_bits-waiting.result values into w.put_word.new.into c.loop-value.invariant refl small c.requires.narrow w.if-width-room.false refl
          w.high_bits-waiting.ensures w.put_word.ensures.written w.put_word.ensures.below)
          w.written-is w.bits-is w.waiting-is w.into-is
    ]

pub returns : goal.returns
returns c =
    let count = c.loop-value.value-index in
    let written = c.loop-value.written in
    let after = c.put_rest.new.into in
    let all : c.loop-value.value-index ≡ length c.args.values.now = omega arith in
    let counted : c.loop-value.value-index * c.args.width ≡ length c.args.values.now * c.args.width = ap (λ n. n * c.args.width) all in
    let size : length c.put_rest.new.into ≡ packed_len (length c.args.values.now) c.args.width = omega arith in
    IsPackedTail-from_begun c.args.width count written c.loop-value.bits c.loop-value.waiting (length after - written) c.args.values.now c.loop-value.into after c.loop-value.invariant all c.requires.small c.bytes_fit.ensures
    size (omega arith) (λ k within. c.put_rest.ensures.written k (omega arith)) c.put_rest.ensures.below
