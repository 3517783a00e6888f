use Rattle.std.proofs.Common.{◌≡◌, ◌<◌, length, get_or, ◌∙◌, arith}
use Rattle.std.specs.Prelude.{nat_eq, nat_le}
use Rattle.std.proofs.lemmas.List.{length-set}
use Rattle.scan_ops.proofs.SetLaws.{count_of, count-few, equal-counts, equal-counts_right, meet-next}
use Rattle.scan_ops.proofs.sets.meet.Goals as goal

pub loop-used-preserved : goal.loop-used-preserved
loop-used-preserved c =
    let left = c.args.left.now in
    let right = c.args.right.now in
    let used = c.loop-used.used in
    let a = get_or left used.left 0 in
    let b = get_or right used.right 0 in
    let in_left : used.left < length left = c.loop-used-test.true in
    let in_right : used.right < length right = c.if-used-right.true in
    let same : c.from.result ≡ count_of (nat_eq a b) = c.from.ensures in
    let first : c.from-in-loop-used.result ≡ count_of (nat_le a b) = c.from-in-loop-used.ensures in
    let second : c.from-in-loop-used-2.result ≡ count_of (nat_le b a) = c.from-in-loop-used-2.ensures in
    record {
      left = omega (arith, count-few (nat_le a b), first, in_left);
      right = omega (arith, count-few (nat_le b a), second, in_right);
      kept_left = omega (arith, equal-counts a b, same, first, c.loop-used.invariant.kept_left);
      kept_right = omega (arith, equal-counts_right a b, same, second, c.loop-used.invariant.kept_right);
      room = length-set c.loop-used.out used.kept a ∙ c.loop-used.invariant.room;
      whole = λ later others rises also.
          c.loop-used.invariant.whole later others rises also
          ∙ meet-next left right later others c.loop-used.out used.left used.right used.kept c.from.result c.from-in-loop-used.result c.from-in-loop-used-2.result in_left in_right
          (omega (arith, in_left, in_right, c.requires.room, c.loop-used.invariant.room, c.loop-used.invariant.kept_left, c.loop-used.invariant.kept_right)) same first second rises also;
    }
