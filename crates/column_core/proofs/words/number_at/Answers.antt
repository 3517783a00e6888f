use Rattle.std.proofs.Common.{length, ap, arith, ◌∙◌}
use Rattle.definitions_blocks.specs.Words.{word_of}
use Rattle.definitions_blocks.proofs.WordLaws.{length-words_of}
use Rattle.column_core.proofs.WordLemmas.{word_of-words_of}
use Rattle.column_core.proofs.words.number_at.Goals as goal

pub word_at-requires : goal.word_at-requires
word_at-requires c = omega (arith, c.requires.3, ap length c.requires.2, length-words_of c.requires.0)

pub returns : goal.returns
returns c = λ values words are.
    c.word_at.ensures ∙ ap (λ l. word_of l c.args.place) are
    ∙ word_of-words_of values c.args.place words (omega (arith, c.requires.3, ap length c.requires.2, length-words_of c.requires.0, ap length are, length-words_of values))
