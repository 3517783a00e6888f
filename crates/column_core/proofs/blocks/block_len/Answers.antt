use Rattle.std.proofs.Common.{◌≤◌, sym, subst}
use Rattle.definitions_blocks.proofs.BlockLaws.{BlockOf-short}
use Rattle.block_core.specs.Formats.{format_of}
use Rattle.column_core.proofs.blocks.block_len.Goals as goal

pub returns-clause-small : goal.returns-clause-small
returns-clause-small c =
    let bytes = c.requires.0 in
    subst (λ n. n ≤ 10250) (sym (c.len_of_encoding.ensures bytes c.requires.1)) (BlockOf-short (format_of c.args.format) c.args.static_width c.args.full.now bytes c.requires.1)
