use Rattle.std.proofs.Common.{◌≤◌, ◌+◌, ◌++◌, length, ap, arith}
use Rattle.std.proofs.lemmas.Bool.{false≢true}
use Rattle.definitions_columns.specs.Sizes.{front_size}
use Rattle.definitions_columns.specs.UnderWay.{AreBlocks}
use Rattle.definitions_blocks.proofs.BlockLaws.{BlockOf-encoding}
use Rattle.block_core.specs.Formats.{format_of}
use Rattle.column_core.specs.Columns.{encoding_of, reserve}
use Rattle.column_core.proofs.BlockAtLemmas.{on_err}
use Rattle.column_core.proofs.EncodedLemmas.{stored_is, blocks_as, same_blocks, pushed, some_blocks, RoomForBlock, room_for_block}
use Rattle.column_core.proofs.encodings.Encoded.push_block.Goals as goal
use Rattle.column_core.proofs.encodings.Encoded.push_block.Goals.{In_ok-grow}

pub grow-requires : goal.grow-requires
grow-requires c = record {
  encoded = BlockOf-encoding (format_of c.self.inside.format) c.self.inside.width c.args.full.now (rw (← c.self.view_is) at c.requires.lawful) c.requires.full (rw (← c.self.view_is) at c.requires.fits);
}

pub invariant_of-self-inside : goal.invariant_of-self-inside
invariant_of-self-inside c =
    let i = c.self.inside in
    let found =
    some_blocks c.grow.result (format_of i.format) i.width i.stored.0 i.bytes.items i.starts.items c.args.full.now c.grow.new.bytes.items c.grow.new.starts.items c.self.invariant.0
    (rw (← c.self.view_is) at c.requires.few) c.grow.ensures.bytes c.grow.ensures.starts c.grow.ensures.bytes_kept c.grow.ensures.starts_kept in
    ((found.0, ∣ found.1 ∣₁), tt)

pub invariant_of-self : goal.invariant_of-self
invariant_of-self c =
    let i = c.self.inside in
    let kept = same_blocks (format_of i.format) i.width i.stored.0 i.bytes.items i.starts.items c.grow.new.bytes.items c.grow.new.starts.items c.self.invariant.0 c.in_err-grow.ensures.bytes_kept c.in_err-grow.ensures.starts_kept in (
      blocks_as i.format i.width c.grow.new.bytes.items c.grow.new.starts.items c.self-1.given.0 i.stored.0 kept,
      omega (arith, c.self.invariant.1, c.in_err-grow.ensures.bytes_capacity),
      omega (arith, c.self.invariant.2, c.in_err-grow.ensures.starts_capacity),
    )

pub returns-in_err-grow-clause-err : goal.returns-in_err-grow-clause-err
returns-in_err-grow-clause-err c =
    let i = c.self.inside in
    let kept = same_blocks (format_of i.format) i.width i.stored.0 i.bytes.items i.starts.items c.grow.new.bytes.items c.grow.new.starts.items c.self.invariant.0 c.in_err-grow.ensures.bytes_kept c.in_err-grow.ensures.starts_kept in
    rw (← c.self.view_is) (on_err c.from_residual.result (ap (encoding_of i.format i.width (reserve i.reserved_bytes i.reserved_count)) (stored_is i.format i.width c.grow.new.bytes.items c.grow.new.starts.items c.self-1.given.0 i.stored.0 kept)))

-- the blocks with one more
more : (c : In_ok-grow) → AreBlocks (format_of c.self.inside.format) c.self.inside.width (c.self.inside.stored.0 ++ c.args.full.now) c.grow.new.bytes.items c.grow.new.starts.items
more c =
    let i = c.self.inside in
    pushed (format_of i.format) i.width i.stored.0 i.bytes.items i.starts.items c.args.full.now c.grow.new.bytes.items c.grow.new.starts.items c.self.invariant.0
    (rw (← c.self.view_is) at c.requires.few) c.in_ok-grow.ensures.bytes c.in_ok-grow.ensures.starts

pub invariant_of-self-2 : goal.invariant_of-self-2
invariant_of-self-2 c =
    let i = c.self.inside in (
      blocks_as i.format i.width c.grow.new.bytes.items c.grow.new.starts.items c.self-1.given.0 (i.stored.0 ++ c.args.full.now) (more c),
      omega (arith, c.self.invariant.1, c.in_ok-grow.ensures.bytes_capacity),
      omega (arith, c.self.invariant.2, c.in_ok-grow.ensures.starts_capacity),
    )

pub returns-clause-ok : goal.returns-clause-ok
returns-clause-ok c =
    let i = c.self.inside in
    rw (← c.self.view_is) (ap (encoding_of i.format i.width (reserve i.reserved_bytes i.reserved_count)) (stored_is i.format i.width c.grow.new.bytes.items c.grow.new.starts.items c.self-1.given.0 (i.stored.0 ++ c.args.full.now) (more c)))

pub returns-in_err-grow-clause-sure : goal.returns-in_err-grow-clause-sure
returns-in_err-grow-clause-sure c =
    let i = c.self.inside in
    let all = i.stored.0 ++ c.args.full.now in
    let encoded = BlockOf-encoding (format_of i.format) i.width c.args.full.now (rw (← c.self.view_is) at c.requires.lawful) c.requires.full (rw (← c.self.view_is) at c.requires.fits) in
    rw (← c.self.view_is) (λ (fits : front_size (format_of i.format) i.width all ≤ i.reserved_bytes) (few : length all ≤ i.reserved_count).
    let room : RoomForBlock (length i.bytes.items) (length encoded.0) i.bytes.cap (length i.starts.items) i.starts.cap =
    room_for_block (format_of i.format) i.width i.stored.0 i.bytes.items i.starts.items c.args.full.now encoded.0 i.reserved_bytes i.reserved_count i.bytes.cap i.starts.cap
    c.self.invariant.0 encoded.1 fits few c.self.invariant.1 c.self.invariant.2 in
    absurd (false≢true (c.in_err-grow.ensures.sure encoded.0 encoded.1 (omega (arith, room.bytes, i.bytes.ok.0)) (omega (arith, room.starts, i.starts.ok.0)))))
