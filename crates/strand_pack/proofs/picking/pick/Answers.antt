use Rattle.std.proofs.Common.{◌≡◌, ◌+◌, ◌*◌, ◌/◌, ◌%◌, ◌≤◌, ◌⊎◌, inl, inr, refl, ◌∙◌}
use Rattle.strand_pack.proofs.Fields.{mask_of}
use Rattle.strand_pack.proofs.Values.{value_picked}
use Rattle.strand_pack.proofs.picking.pick.Goals as goal
use Rattle.strand_pack.proofs.picking.pick.Goals.{then-word-width, else-word-width}

pub returns : goal.returns
returns c = λ values packed.
    let width = c.args.width in
    let place = c.args.place in
    let word = place / 16 * width / 64 * 16 + place % 16 in
    let next = c.if-word-width.next in
    let second : (next ≡ word + 16) ⊎ ((next ≡ word) × (16 * width ≤ word + 16)) =
    elim c.if-word-width.branch [ then-word-width w ↦ inl w.next-is | else-word-width w ↦ inr (w.next-is, w.if-word-width.false) ] in
    value_picked width place word next c.from.result c.from-2.result c.from-mask.result values c.args.bytes.now packed c.requires.within refl second
    (c.from.ensures ∙ c.word_at.ensures) (c.from-2.ensures ∙ c.word_at-2.ensures) (mask_of width c.from-mask.result c.requires.narrow c.from-mask.ensures)
