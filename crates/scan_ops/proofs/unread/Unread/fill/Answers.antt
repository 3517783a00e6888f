use Rattle.std.proofs.Common.{◌+◌, ◌*◌, ◌≤◌, ◌∙◌, ap, List, ℕ, drop, length, arith}
use Rattle.std.proofs.lemmas.List.{length-take}
use Rattle.definitions_blocks.specs.Blocks.{block_values}
use Rattle.scan_ops.proofs.UnreadLaws.{left_in, left-next}
use Rattle.scan_ops.proofs.unread.Unread.fill.Goals as goal

pub returns-clause-unread : goal.returns-clause-unread
returns-clause-unread g c =
    let list = g.S.BlockSource.list c.args.source.now in
    record {
      few = c.requires.few;
      short = omega (arith, ap length c.block.ensures.values, length-take block_values (drop (c.args.self.now.next * block_values) list));
      used = omega arith;
      next = omega (arith, c.if-self.false);
      blocks = c.requires.blocks;
    }

pub returns-clause-left : goal.returns-clause-left
returns-clause-left g c =
    let list = g.S.BlockSource.list c.args.source.now in
    let unread = c.args.self.now in
    let block : length unread.block ≤ unread.used = omega (arith, c.if-self-as_slice.false, ap length c.as_slice.ensures.values) in
    ap (λ (b : List ℕ). left_in list b 0 (unread.next + 1)) c.block.ensures.values ∙ left-next list unread.block unread.used unread.next block
