use Rattle.std.proofs.Common.{◌≡◌, drop, filter, length, not}
use Rattle.std.specs.Prelude.{◌==◌}
use Rattle.std.specs.List.{zip}
use Rattle.definitions_outcomes.specs.Computed.{walk}
use Rattle.definitions_outcomes.proofs.ComputedLaws.{after}
use Rattle.query_text.specs.Views.{words_view}
use Rattle.query_bind.specs.Binding.{join_to, joins_of}
use Rattle.query_bind.proofs.binding.joins_of.Given as goal

-- the joins so far, and then those to the dimensions that are left
abbrev pub invariant-loop-place : goal.invariant-loop-place
invariant-loop-place l = joins_of l.fact l.joins (words_view l.words) l.tables
    ≡ after l.ordered.items (walk (λ number. join_to l.joins) (length l.ordered.items)
    (filter (λ named. not (named.1 == l.fact)) (drop l.place (zip (words_view l.words) l.tables))))
