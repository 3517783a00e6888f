use Rattle.std.proofs.Common.{◌≡◌, max, refl, ap, ap₂, ◌∙◌, ℕ, arith, rules}
use Rattle.block_core.specs.Formats.{format_of}
use Rattle.column_core.specs.Columns.{encoding_of, reserve}
use Rattle.column_core.proofs.BlockAtLemmas.{on_err}
use Rattle.column_core.proofs.EncodedLemmas.{stored_is, blocks_as, same_blocks}
use Rattle.column_core.proofs.encodings.Encoded.reserve.Goals as goal

pub invariant_of-self : goal.invariant_of-self
invariant_of-self c =
    let i = c.self.inside in
    let kept = same_blocks (format_of i.format) i.width i.stored.0 i.bytes.items i.starts.items c.make_room.new.items.items i.starts.items c.self.invariant.0 c.make_room.ensures.items refl in
    (blocks_as i.format i.width c.make_room.new.items.items i.starts.items c.in_err-make_room.self-1-own.given.0 i.stored.0 kept, omega (arith, c.self.invariant.1, c.make_room.ensures.capacity), c.self.invariant.2)

pub returns-in_err-make_room-clause-err : goal.returns-in_err-make_room-clause-err
returns-in_err-make_room-clause-err c =
    let i = c.self.inside in
    let kept = same_blocks (format_of i.format) i.width i.stored.0 i.bytes.items i.starts.items c.make_room.new.items.items i.starts.items c.self.invariant.0 c.make_room.ensures.items refl in
    rw (← c.self.view_is) (on_err c.from_residual.result (ap (encoding_of i.format i.width (reserve i.reserved_bytes i.reserved_count)) (stored_is i.format i.width c.make_room.new.items.items i.starts.items c.in_err-make_room.self-1-own.given.0 i.stored.0 kept)))

pub invariant_of-self-in_err-make_room-2 : goal.invariant_of-self-in_err-make_room-2
invariant_of-self-in_err-make_room-2 c =
    let i = c.self.inside in
    let kept = same_blocks (format_of i.format) i.width i.stored.0 i.bytes.items i.starts.items c.make_room.new.items.items c.make_room-2.new.items.items c.self.invariant.0 c.make_room.ensures.items c.make_room-2.ensures.items in (
      blocks_as i.format i.width c.make_room.new.items.items c.make_room-2.new.items.items c.in_err-make_room-2.self-in-Break-branch-2-1-own.given.0 i.stored.0 kept,
      omega (arith, c.self.invariant.1, c.make_room.ensures.capacity),
      omega (arith, c.self.invariant.2, c.make_room-2.ensures.capacity),
    )

pub returns-in_err-make_room-2-clause-err : goal.returns-in_err-make_room-2-clause-err
returns-in_err-make_room-2-clause-err c =
    let i = c.self.inside in
    let kept = same_blocks (format_of i.format) i.width i.stored.0 i.bytes.items i.starts.items c.make_room.new.items.items c.make_room-2.new.items.items c.self.invariant.0 c.make_room.ensures.items c.make_room-2.ensures.items in
    rw (← c.self.view_is) (on_err c.from_residual-in_err-make_room-2.result (ap (encoding_of i.format i.width (reserve i.reserved_bytes i.reserved_count)) (stored_is i.format i.width c.make_room.new.items.items c.make_room-2.new.items.items c.in_err-make_room-2.self-in-Break-branch-2-1-own.given.0 i.stored.0 kept)))

pub invariant_of-self-2 : goal.invariant_of-self-2
invariant_of-self-2 c =
    let i = c.self.inside in
    let kept = same_blocks (format_of i.format) i.width i.stored.0 i.bytes.items i.starts.items c.make_room.new.items.items c.make_room-2.new.items.items c.self.invariant.0 c.make_room.ensures.items c.make_room-2.ensures.items in
    (blocks_as i.format i.width c.make_room.new.items.items c.make_room-2.new.items.items c.self-2-1.given.0 i.stored.0 kept, c.in_ok-make_room.ensures.ok, c.in_ok-make_room-2.ensures.ok)

pub returns-clause-ok : goal.returns-clause-ok
returns-clause-ok c =
    let i = c.self.inside in
    let kept = same_blocks (format_of i.format) i.width i.stored.0 i.bytes.items i.starts.items c.make_room.new.items.items c.make_room-2.new.items.items c.self.invariant.0 c.make_room.ensures.items c.make_room-2.ensures.items in
    let bytes : c.max-bytes.result ≡ max i.reserved_bytes c.args.bytes = search rules in
    let count : c.max-count.result ≡ max i.reserved_count c.args.count = search rules in
    rw (← c.self.view_is) (ap (encoding_of i.format i.width (reserve c.max-bytes.result c.max-count.result)) (stored_is i.format i.width c.make_room.new.items.items c.make_room-2.new.items.items c.self-2-1.given.0 i.stored.0 kept)
    ∙ ap₂ (λ (a b : ℕ). encoding_of i.format i.width (reserve a b) i.stored.0) bytes count)
