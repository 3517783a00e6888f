-- Reading queries one after the other, as a loop does.
use Rattle.std.proofs.Common.{◌≡◌, ◌<◌, List, [], ◌∷◌, ◌++◌, length, Option, Some, None, Ok, Err, refl, sym, ap, ◌∙◌, arith}
use Rattle.std.specs.Prelude.{codes, option_map}
use Rattle.std.proofs.lemmas.List.{append-nil, length-map}
use Rattle.definitions_queries.specs.Tokens.{Placed}
use Rattle.definitions_queries.specs.Queries.{Query}
use Rattle.query_text.specs.declared.stop.Stop.{Stop}
use Rattle.query_text.specs.declared.stop.Stop.TheVariants as stops
use Rattle.query_text.specs.declared.tokens.Token.{Token}
use Rattle.query_text.specs.Reading.{Read, Reader, next, ◌>>=◌, give, with_rest, chosen, the_reserved, selected_at, body_at, close_at, finish_at, end_at, nothing_more, select_after, next_query, others, queries_at}
use Rattle.query_text.specs.Views.{token_view, tokens_view}
use Rattle.query_text.specs.Readers.{StopsAs}
use Rattle.query_text.proofs.ListLaws.{Lawful-shortens}
use Rattle.query_text.proofs.LawfulParts.{but_end, Lawful-selected}
use Rattle.query_text.proofs.LoopLemmas.{with_front, regroup}
use Rattle.query_text.proofs.QueriesLaws.{after_semicolon, others-is}

-- the tokens after one query more
abbrev then_others : Query → Reader (List Query)
then_others query = others >>= λ more. give (query ∷ more)

others-next : (rest after : List Placed) → next_query rest ≡ Some after → others rest ≡ next (selected_at after) then_others
others-next [] after e = absurd cc
others-next (token ∷ rest) after e = others-is (token ∷ rest) ∙ go (the_reserved (codes ";") token) e
  where
    on_select : (second : Placed) (last : List Placed) (o : Option (Unit {0})) → option_map (λ x. x.1) (with_rest o last) ≡ Some after
        → chosen o (λ _. selected_at >>= then_others) nothing_more second last ≡ next (selected_at after) then_others
    on_select second last (Some u) e = let same : last ≡ after = cc in ap (λ r. next (selected_at r) then_others) same
    on_select second last None e = absurd cc

    on_semicolon : (u : Unit {0}) (rest : List Placed) → select_after (Some (u, rest)) ≡ Some after → after_semicolon others u rest ≡ next (selected_at after) then_others
    on_semicolon u [] e = absurd cc
    on_semicolon u (second ∷ last) e = on_select second last (the_reserved (codes "select") second) e

    go : (o : Option (Unit {0})) → select_after (with_rest o rest) ≡ Some after → chosen o (after_semicolon others) nothing_more token rest ≡ next (selected_at after) then_others
    go (Some u) e = on_semicolon u rest e
    go None e = absurd cc

others-last : (rest : List Placed) → next_query rest ≡ None → others rest ≡ next (finish_at rest) (λ _. give [])
unfolding finish_at close_at
others-last [] e = others-is []
others-last (token ∷ rest) e = others-is (token ∷ rest) ∙ go (the_reserved (codes ";") token) e
  where
    on_select : (second : Placed) (last : List Placed) (o : Option (Unit {0})) → option_map (λ x. x.1) (with_rest o last) ≡ None
        → chosen o (λ _. selected_at >>= then_others) nothing_more second last ≡ nothing_more (second ∷ last)
    on_select second last (Some u) e = absurd cc
    on_select second last None e = refl

    on_semicolon : (u : Unit {0}) (rest : List Placed) → select_after (Some (u, rest)) ≡ None → after_semicolon others u rest ≡ nothing_more rest
    on_semicolon u [] e = refl
    on_semicolon u (second ∷ last) e = on_select second last (the_reserved (codes "select") second) e

    go : (o : Option (Unit {0})) → select_after (with_rest o rest) ≡ None
        → chosen o (after_semicolon others) nothing_more token rest ≡ next (next (chosen o (λ _. give (tt {0})) (give (tt {0})) token rest) (λ _. end_at)) (λ _. give [])
    go (Some u) e = on_semicolon u rest e
    go None e = refl

-- the first query is read
pub begins_queries : (tokens rest : List Placed) (query : Query) → body_at tokens ≡ Ok (query, rest) → with_front (query ∷ []) (others rest) ≡ queries_at tokens
unfolding queries_at
begins_queries tokens rest query e = sym (regroup [] query (others rest)) ∙ same (others rest) ∙ rw e refl
  where
    same : (read : Read (List Query)) → with_front [] (next read (λ more. give (query ∷ more))) ≡ next read (λ more. give (query ∷ more))
    same (Ok found) = refl
    same (Err place) = refl

-- the first query is refused
pub first_fails : (e : Stop) (tokens : List Placed) → StopsAs e (body_at tokens) → StopsAs e (queries_at tokens)
unfolding queries_at
first_fails (stops.Syntax at) tokens f = rw f refl
first_fails stops.Memory tokens f = tt

-- one more query is read
pub one_more_query : (front : List Query) (query : Query) (rest after left : List Placed) (total : Read (List Query)) → next_query rest ≡ Some after → selected_at after ≡ Ok (query, left)
    → with_front front (others rest) ≡ total → with_front (front ++ query ∷ []) (others left) ≡ total
one_more_query front query rest after left total e f so_far =
    sym (regroup front query (others left)) ∙ ap (with_front front) (ap (λ read. next read then_others) (sym f) ∙ sym (others-next rest after e)) ∙ so_far

-- one more query is refused
pub next_fails : (e : Stop) (front : List Query) (rest after : List Placed) (total : Read (List Query)) → next_query rest ≡ Some after → StopsAs e (selected_at after)
    → with_front front (others rest) ≡ total → StopsAs e total
next_fails (stops.Syntax at) front rest after total e f so_far = sym so_far ∙ ap (with_front front) (others-next rest after e ∙ ap (λ read. next read then_others) f)
next_fails stops.Memory front rest after total e f so_far = tt

-- no query follows
pub last_fails : (e : Stop) (front : List Query) (rest : List Placed) (total : Read (List Query)) → next_query rest ≡ None → StopsAs e (finish_at rest)
    → with_front front (others rest) ≡ total → StopsAs e total
last_fails (stops.Syntax at) front rest total e f so_far = sym so_far ∙ ap (with_front front) (others-last rest e ∙ ap (λ read. next read (λ _. give [])) f)
last_fails stops.Memory front rest total e f so_far = tt

pub all_read : (front : List Query) (rest : List Placed) (total : Read (List Query)) → next_query rest ≡ None → finish_at rest ≡ Ok (tt, []) → with_front front (others rest) ≡ total → total ≡ Ok (front, [])
all_read front rest total e f so_far =
    let none : others rest ≡ Ok ([], []) = others-last rest e ∙ ap (λ read. next read (λ _. give [])) f in
    sym so_far ∙ ap (with_front front) none ∙ ap (λ queries. Ok (queries, [])) (append-nil front)

next_query-shorter : (rest after : List Placed) → next_query rest ≡ Some after → length after < length rest
next_query-shorter [] after e = absurd cc
next_query-shorter (token ∷ rest) after e = go (the_reserved (codes ";") token) e
  where
    on_select : (second : Placed) (last : List Placed) (o : Option (Unit {0})) → option_map (λ x. x.1) (with_rest o last) ≡ Some after → length after < length (token ∷ second ∷ last)
    on_select second last (Some u) e = let same : last ≡ after = cc in omega (arith, ap length same)
    on_select second last None e = absurd cc

    on_semicolon : (u : Unit {0}) (rest : List Placed) → select_after (Some (u, rest)) ≡ Some after → length after < length (token ∷ rest)
    on_semicolon u [] e = absurd cc
    on_semicolon u (second ∷ last) e = on_select second last (the_reserved (codes "select") second) e

    go : (o : Option (Unit {0})) → select_after (with_rest o rest) ≡ Some after → length after < length (token ∷ rest)
    go (Some u) e = on_semicolon u rest e
    go None e = absurd cc

-- fewer tokens are left
pub fewer : (rest after left : List Token) (query : Query) → next_query (tokens_view rest) ≡ Some (tokens_view after) → selected_at (tokens_view after) ≡ Ok (query, tokens_view left) → length left < length rest
fewer rest after left query e f =
    omega (
      arith,
      next_query-shorter (tokens_view rest) (tokens_view after) e,
      Lawful-shortens selected_at but_end Lawful-selected (tokens_view after) query (tokens_view left) f,
      length-map rest token_view,
      length-map after token_view,
      length-map left token_view,
    )
