use Rattle.std.proofs.Common.{◌+◌, ◌*◌, sym, ap, ◌∙◌}
use Rattle.definitions_blocks.proofs.RunBlockLaws.{IsRunsBlock-length}
use Rattle.run_formats.proofs.run_blocks.RunsPacking.byte_len.Goals as goal

pub returns : goal.returns
returns c = λ bytes is. c.block_size.ensures ∙ ap (λ n. 2 + 10 * n) is.headed ∙ sym (IsRunsBlock-length is.values bytes is.encoded)
