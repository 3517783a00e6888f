use Rattle.std.proofs.Common.{◌≡◌, ◌∙◌, ◌+◌, ◌-◌, ℕ, List, length, ap, sym, arith}
use Rattle.definitions_operators.specs.Operators.{places_of}
use Rattle.join_ops.specs.Joins.{linked_places}
use Rattle.join_ops.proofs.JoinLaws.{places_from-link, places_from-all, linked-open, linked-next}
use Rattle.join_ops.proofs.fits.room_after_value.Goals as goal

pub loop-link-init : goal.loop-link-init
loop-link-init c =
    let keys = c.args.keys.now in
    let is = c.first_link-link.ensures in
    let same : places_of keys c.args.value ≡ linked_places keys c.args.value c.first_link-link.result =
    sym (places_from-all keys c.args.value) ∙ places_from-link keys c.args.value 0 c.first_link-link.result (omega arith) is in
    record {
      here = λ place e. let found = is.here place e in (found.1, found.2);
      count = ap (λ (l : List ℕ). c.args.room + length l) same;
    }

pub next_link-link-requires : goal.next_link-link-requires
next_link-link-requires c = (c.loop-link.invariant.here (c.loop-link.link - 1) (omega arith)).0

pub loop-link-smaller : goal.loop-link-smaller
loop-link-smaller c =
    let keys = c.args.keys.now in
    let value = c.args.value in
    let link = c.loop-link.link in
    let here = c.loop-link.invariant.here (link - 1) (omega arith) in
    let same = linked-next keys value link c.next_link-link.result (omega arith) here.0 here.1 c.next_link-link.ensures in
    omega (arith, ap length (linked-open keys value link (omega arith)), ap length same)

pub loop-link-preserved : goal.loop-link-preserved
loop-link-preserved c =
    let keys = c.args.keys.now in
    let value = c.args.value in
    let link = c.loop-link.link in
    let here = c.loop-link.invariant.here (link - 1) (omega arith) in
    let same = linked-next keys value link c.next_link-link.result (omega arith) here.0 here.1 c.next_link-link.ensures in
    record {
      here = λ spot e. let found = c.next_link-link.ensures.here spot e in (found.1, found.2 ∙ here.1);
      count = omega (arith, c.loop-link.invariant.count, ap length (linked-open keys value link (omega arith)), ap length same);
    }
