use Rattle.std.proofs.Common.{◌≡◌, length}
use Rattle.std.specs.Prelude.{codes}
use Rattle.query_text.specs.Reading.{more, list_at, name_at}
use Rattle.query_text.specs.Views.{tokens_view, words_view}
use Rattle.query_text.proofs.LoopLemmas.{with_front}
use Rattle.query_text.proofs.reading.names.Given as goal

-- what was read and what is still read are the list
abbrev pub invariant-loop-after : goal.invariant-loop-after
invariant-loop-after l = with_front (words_view l.names.items) (more (codes ",") name_at (tokens_view l.rest)) ≡ list_at (codes ",") name_at (tokens_view l.fn.tokens)

abbrev pub decreases-loop-after : goal.decreases-loop-after
decreases-loop-after l = length l.rest
