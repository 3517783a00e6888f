use Rattle.std.proofs.Common.{◌≡◌, length}
use Rattle.std.specs.Prelude.{codes}
use Rattle.std.specs.Str.{str_to_ascii_lowercase}
use Rattle.query_text.specs.Reading.{more, alternative_at, choices_at}
use Rattle.query_text.specs.Views.{tokens_view, literals_view}
use Rattle.query_text.proofs.LoopLemmas.{with_front}
use Rattle.query_text.proofs.conditions.choices.Given as goal

-- what was read and what is still read are the list
abbrev pub invariant-loop-after : goal.invariant-loop-after
invariant-loop-after l = record {
  read : with_front (literals_view l.values.items l.places.items) (more (codes "or") (alternative_at (str_to_ascii_lowercase l.fn.expected)) (tokens_view l.rest)) ≡ choices_at (str_to_ascii_lowercase l.fn.expected) (tokens_view l.fn.tokens);
  alike : length l.values.items ≡ length l.places.items;
}

abbrev pub decreases-loop-after : goal.decreases-loop-after
decreases-loop-after l = length l.rest
