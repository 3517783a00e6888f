use Rattle.std.proofs.Common.{◌≡◌, ◌<◌, length, get_or, ◌∙◌, arith}
use Rattle.std.specs.Prelude.{nat_le}
use Rattle.std.proofs.lemmas.List.{length-set}
use Rattle.scan_ops.proofs.SetLaws.{count_of, count-few, one-counts, merge-next}
use Rattle.scan_ops.proofs.sets.merge.Goals as goal

pub loop-used-preserved : goal.loop-used-preserved
loop-used-preserved c =
    let left = c.args.left.now in
    let right = c.args.right.now in
    let used = c.loop-used.used in
    let a = get_or left used.left 0 in
    let b = get_or right used.right 0 in
    let in_left : used.left < length left = c.loop-used-test.true in
    let in_right : used.right < length right = c.if-used-right.true in
    let room : used.kept < length c.loop-used.out = c.if-used-out.true in
    let first : c.from.result ≡ count_of (nat_le a b) = c.from.ensures in
    let second : c.from-in-loop-used.result ≡ count_of (nat_le b a) = c.from-in-loop-used.ensures in
    record {
      left = omega (arith, count-few (nat_le a b), first, in_left);
      right = omega (arith, count-few (nat_le b a), second, in_right);
      kept = omega (arith, length-set c.loop-used.out used.kept c.min.result, room);
      few = omega (arith, one-counts a b, first, second, c.loop-used.invariant.few);
      room = length-set c.loop-used.out used.kept c.min.result ∙ c.loop-used.invariant.room;
      whole = λ later others rises also.
          c.loop-used.invariant.whole later others rises also
          ∙ merge-next left right later others c.loop-used.out used.left used.right used.kept c.min.result c.from.result c.from-in-loop-used.result in_left in_right room
          c.min.ensures first second rises also;
    }
