use Rattle.std.proofs.Common.{◌≡◌, length}
use Rattle.query_text.specs.Reading.{others, queries_at}
use Rattle.query_text.specs.Views.{tokens_view, queries_view}
use Rattle.query_text.proofs.LoopLemmas.{with_front}
use Rattle.query_text.proofs.queries.queries.Given as goal

-- what was read and what is still read are the queries
abbrev pub invariant-loop-after : goal.invariant-loop-after
invariant-loop-after l = with_front (queries_view l.queries.items) (others (tokens_view l.rest)) ≡ queries_at (tokens_view l.fn.tokens)

abbrev pub decreases-loop-after : goal.decreases-loop-after
decreases-loop-after l = length l.rest
