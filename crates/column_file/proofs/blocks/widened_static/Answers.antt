use Rattle.std.proofs.Common.{◌≡◌, ℕ, ◌≤◌, List, subst, arith}
use Rattle.definitions_blocks.specs.Packed.{IsPacked, IsWidth}
use Rattle.definitions_blocks.specs.Encodings.{width_of}
use Rattle.definitions_blocks.proofs.WidthLaws.{width_of-is, IsWidth-width_of, AreBelow-words}
use Rattle.definitions_blocks.proofs.PackedLaws.{IsPacked-full, packed_one_block}
use Rattle.column_file.proofs.blocks.widened_static.Goals as goal

pub returns-then-widest-width : goal.returns-then-widest-width
returns-then-widest-width c = λ values packed.
    let is : IsWidth (width_of values) values = IsWidth-width_of values (AreBelow-words values (IsPacked-full c.args.width values c.args.bytes.now packed).words) in
    omega (arith, is.least c.args.width packed.small, c.if-widest-width.true)

-- the width that was found is the block's
own : (width found : ℕ) (values decoded bytes : List ℕ) → IsPacked width values bytes → IsPacked width decoded bytes → IsWidth found decoded → found ≤ 64 → width_of values ≡ found
own width found values decoded bytes packed there is narrow =
    let same : decoded ≡ values = packed_one_block width decoded values bytes there packed in
    width_of-is found values (subst (IsWidth found) same is) narrow

pub returns-then-own-widest : goal.returns-then-own-widest
returns-then-own-widest c = λ values packed.
    omega (arith, own c.args.width c.width_of-own.result values c.decode_block.new.into c.args.bytes.now packed c.decode_block.ensures c.width_of-own.ensures.least c.width_of-own.ensures.narrow, c.if-own-widest.true)

pub returns-else-own-widest : goal.returns-else-own-widest
returns-else-own-widest c = λ values packed.
    omega (arith, own c.args.width c.width_of-own.result values c.decode_block.new.into c.args.bytes.now packed c.decode_block.ensures c.width_of-own.ensures.least c.width_of-own.ensures.narrow, c.if-own-widest.false)
