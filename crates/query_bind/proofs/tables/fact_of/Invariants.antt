use Rattle.std.proofs.Common.{◌≡◌, drop, filter}
use Rattle.std.specs.List.{zip}
use Rattle.query_text.specs.Views.{words_view}
use Rattle.query_bind.specs.Binding.{is_fact, fact_of}
use Rattle.query_bind.proofs.JoinLemmas.{goes_on}
use Rattle.query_bind.proofs.tables.fact_of.Given as goal

-- the fact tables that are left decide, with the one so far
abbrev pub invariant-loop-place : goal.invariant-loop-place
invariant-loop-place l = fact_of l.schema (words_view l.words) l.tables
    ≡ goes_on (words_view l.words) l.fact (filter (λ named. is_fact l.schema named.1) (drop l.place (zip (words_view l.words) l.tables)))
