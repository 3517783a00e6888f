use Rattle.std.proofs.Common.{◌≡◌, length}
use Rattle.std.specs.Prelude.{codes}
use Rattle.query_text.specs.Reading.{more, list_at, key_at}
use Rattle.query_text.specs.Views.{tokens_view, keys_view}
use Rattle.query_text.proofs.LoopLemmas.{with_front}
use Rattle.query_text.proofs.queries.keys.Given as goal

-- what was read and what is still read are the list
abbrev pub invariant-loop-after : goal.invariant-loop-after
invariant-loop-after l = with_front (keys_view l.keys.items) (more (codes ",") key_at (tokens_view l.rest)) ≡ list_at (codes ",") key_at (tokens_view l.fn.tokens)

abbrev pub decreases-loop-after : goal.decreases-loop-after
decreases-loop-after l = length l.rest
