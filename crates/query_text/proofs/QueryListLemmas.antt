-- Each of several queries is spelled by tokens of its own, and has few entries.
use Rattle.std.proofs.Common.{ℕ, ◌≤◌, List, [], ◌∷◌, length, arith}
use Rattle.std.specs.List.{All}
use Rattle.std.proofs.lemmas.List.Elements.{All-nil, All-cons}
use Rattle.definitions_queries.specs.Tokens.{Placed}
use Rattle.definitions_queries.specs.Queries as said
use Rattle.definitions_queries.specs.Grammar.{SpellsAll, IsSpelled}
use Rattle.definitions_queries.specs.Entries.{entries}
use Rattle.definitions_queries.specs.Texts.{IsQueriesText}
use Rattle.query_text.specs.declared.query.Query.{Query}
use Rattle.query_text.specs.Views.{query_view, queries_view}
use Rattle.query_text.proofs.QueriesLaws.{Ends, Split, split_all, ends-stop, body-spelled}
use Rattle.query_text.proofs.EntryLemmas.{body-more, reserved-more, tokens-within}
use Rattle.std.specs.Prelude.{codes, None}

-- it may be bound
abbrev pub MayBeBound : ℕ → Query → Type 0
MayBeBound most query = IsSpelled (query_view query) × (entries (query_view query) ≤ most)

first_may : (most : ℕ) (query : Query) (more : List said.Query) (tokens : List Placed) → length tokens ≤ most → Split (query_view query) more tokens → MayBeBound most query
first_may most query more tokens few s =
    (body-spelled (query_view query) tokens s.middle s.first (ends-stop more s.middle s.ends), omega (arith, few, body-more (query_view query) tokens s.middle s.first))

may_be_bound : (most : ℕ) (queries : List Query) (tokens : List Placed) → length tokens ≤ most → SpellsAll tokens (queries_view queries) → All (MayBeBound most) queries
may_be_bound most [] tokens few h = absurd h
may_be_bound most (query ∷ []) tokens few h =
    let s = split_all (query_view query) [] tokens h in
    All-cons (MayBeBound most) query [] (first_may most query [] tokens few s) (All-nil (MayBeBound most))
may_be_bound most (query ∷ second ∷ queries) tokens few h =
    let s = split_all (query_view query) (queries_view (second ∷ queries)) tokens h in
    let ends : Ends (queries_view (second ∷ queries)) s.middle = s.ends in
    All-cons (MayBeBound most) query (second ∷ queries) (first_may most query (queries_view (second ∷ queries)) tokens few s)
    (may_be_bound most (second ∷ queries) ends.0 (omega (arith, few, body-more (query_view query) tokens s.middle s.first, reserved-more (codes ";") s.middle ends.0 ends.1)) ends.2)

pub each_spelled : (most : ℕ) (text : List ℕ) (queries : List Query) → length text ≤ most → IsQueriesText text (queries_view queries) → All (λ query. IsSpelled (query_view query)) queries
each_spelled most text queries few (tokens, cuts, spells) =
    let all = may_be_bound most queries tokens (omega (arith, tokens-within text tokens None cuts)) spells in
    λ k d within. (all k d within).0

pub each_bounded : (most : ℕ) (text : List ℕ) (queries : List Query) → length text ≤ most → IsQueriesText text (queries_view queries) → All (λ query. entries (query_view query) ≤ most) queries
each_bounded most text queries few (tokens, cuts, spells) =
    let all = may_be_bound most queries tokens (omega (arith, tokens-within text tokens None cuts)) spells in
    λ k d within. (all k d within).1
