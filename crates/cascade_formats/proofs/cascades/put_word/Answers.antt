use Rattle.std.proofs.Common.{drop, ◌++◌, ap, ◌∙◌}
use Rattle.definitions_blocks.specs.Words.{word_bytes}
use Rattle.cascade_formats.proofs.cascades.put_word.Goals as goal

pub returns : goal.returns
unfolding word_bytes
returns c = ap (λ l. l ++ drop 8 c.args.into.now) (c.copy_from_slice.ensures.after ∙ c.to_le_bytes.ensures)
