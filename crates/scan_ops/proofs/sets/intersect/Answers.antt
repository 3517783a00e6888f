use Rattle.std.proofs.Common.{◌≡◌, length, sym, ap, ◌∙◌}
use Rattle.std.proofs.lemmas.List.{length-replicate}
use Rattle.scan_ops.proofs.SetLaws.{met-all, room-kept}
use Rattle.scan_ops.proofs.sets.intersect.Goals as goal

pub returns : goal.returns
returns c =
    let left = c.args.left.now in
    let right = c.args.right.now in
    let found = c.in_ok-found in
    let used = c.meet-used in
    let items = found.found.items in
    let out = used.new.out in
    let filled : length items ≡ c.min.result = ap length (found.ensures.items_if_clones_equal (λ y h. h)) ∙ length-replicate c.min.result 0 in
    let same : length out ≡ length items = used.ensures.room ∙ ap length c.as_mut_slice.ensures.value in
    let room : found.found.len ≡ length items = found.ensures.len ∙ sym filled in
    c.from_vec.ensures ∙ c.truncate.ensures.items ∙ room-kept out items found.found.len used.result.kept room same
    ∙ met-all left right out used.result.left used.result.right used.result.kept used.ensures.ended used.ensures.whole c.requires.left c.requires.right
