use Rattle.std.proofs.Common.{◌≡◌, drop}
use Rattle.query_text.specs.Views.{words_view}
use Rattle.query_bind.specs.Binding.{are_of_from}
use Rattle.query_bind.proofs.mentions.check_words.Given as goal

-- the names that are left decide
abbrev pub invariant-loop-word : goal.invariant-loop-word
invariant-loop-word l = are_of_from l.index l.tables (words_view l.words) ≡ are_of_from l.index l.tables (drop l.word-index (words_view l.words))
