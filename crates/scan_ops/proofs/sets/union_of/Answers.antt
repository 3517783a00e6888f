use Rattle.std.proofs.Common.{◌≡◌, ℕ, ◌+◌, List, ◌++◌, length, sym, ap, ap₂, ◌∙◌}
use Rattle.std.proofs.lemmas.List.{length-replicate}
use Rattle.scan_ops.proofs.SetLaws.{merged-all, merged-ended, room-kept, rest-of}
use Rattle.scan_ops.proofs.sets.union_of.Goals as goal

pub returns : goal.returns
returns c =
    let left = c.args.left.now in
    let right = c.args.right.now in
    let found = c.in_ok-found in
    let used = c.merge-used in
    let items = found.found.items in
    let out = used.new.out in
    let filled : length items ≡ length left + length right = ap length (found.ensures.items_if_clones_equal (λ y h. h)) ∙ length-replicate (length left + length right) 0 in
    let same : length out ≡ length items = used.ensures.room ∙ ap length c.as_mut_slice.ensures.value in
    let room : found.found.len ≡ length items = found.ensures.len ∙ sym filled in
    let kept = c.truncate.ensures.items ∙ room-kept out items found.found.len used.result.kept room same in
    let ended = merged-ended left right used.result.left used.result.right used.result.kept (length items)
    (rw (ap length c.as_mut_slice.ensures.value) at used.ensures.ended) filled used.ensures.left used.ensures.right used.ensures.few in
    let first = c.in_ok-extend_from_slice.ensures.items ∙ ap₂ (λ (a b : List ℕ). a ++ b) kept (rest-of left used.result.left) in
    let both = c.in_ok-extend_from_slice-2.ensures.items ∙ ap₂ (λ (a b : List ℕ). a ++ b) first (rest-of right used.result.right) in
    c.from_vec.ensures ∙ both
    ∙ merged-all left right out used.result.left used.result.right used.result.kept ended used.ensures.whole c.requires.left c.requires.right
