use Rattle.std.proofs.Common.{◌≡◌, map, take}
use Rattle.query_text.specs.Views.{words_view}
use Rattle.query_bind.specs.Binding.{column_of}
use Rattle.query_bind.proofs.binding.columns_named.Given as goal

-- the columns so far
abbrev pub invariant-loop-word : goal.invariant-loop-word
invariant-loop-word l = l.columns.items ≡ map (column_of l.index) (words_view (take l.word-index l.words))
