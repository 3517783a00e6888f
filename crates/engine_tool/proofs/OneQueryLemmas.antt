-- A text spells one query at most.
use Rattle.std.proofs.Common.{◌≡◌, ℕ, List, [], ◌∷◌, Option, Some, None, refl, ap, ◌∙◌}
use Rattle.engine_tool.specs.Tokens.{Token, Begins, AreTokens, behind, is_white_space}
use Rattle.engine_tool.specs.Queries.{Condition, Query, Spells, where_tokens, query_tokens}
use Rattle.engine_tool.proofs.TextLemmas.{lacks_token, lacks_at_end, begins_next, begins_same}

-- the tokens up to a text's end are one list
tokens_one : (first second : List Token) (text one other : List ℕ) → Begins text first one → behind is_white_space one ≡ [] → Begins text second other → behind is_white_space other ≡ [] → first ≡ second
tokens_one [] [] text one other p p_end q q_end = refl
tokens_one [] (b ∷ second) text one other p p_end q q_end = absurd (lacks_token text [] b (ap (behind is_white_space) p ∙ p_end) (lacks_at_end b) q.0 q.1)
tokens_one (a ∷ first) [] text one other p p_end q q_end = absurd (lacks_token text [] a (ap (behind is_white_space) q ∙ q_end) (lacks_at_end a) p.0 p.1)
tokens_one (a ∷ first) (b ∷ second) text one other p p_end q q_end =
    let token : a ≡ b = begins_same text p.0 other a b second p.1 q in
    let rest : first ≡ second = tokens_one first second p.0 one other p.2 p_end (begins_next text p.0 other a b second p.1 q) q_end in
    rw (token, rest) refl

AreTokens-one : (text : List ℕ) (first second : List Token) → AreTokens text first → AreTokens text second → first ≡ second
AreTokens-one text first second p q = tokens_one first second text p.0 q.0 p.1 p.2 q.1 q.2

-- a query is that of its tokens
conditions_one : (condition other : Option Condition) → where_tokens condition ≡ where_tokens other → condition ≡ other
conditions_one None None e = refl
conditions_one None (Some other) e = cc
conditions_one (Some condition) None e = cc
conditions_one (Some condition) (Some other) e =
    let tested : condition.tested ≡ other.tested = cc in
    let low : condition.low ≡ other.low = cc in
    let high : condition.high ≡ other.high = cc in
    λ i. Some (record { tested = tested i; low = low i; high = high i })

queries_one : (query other : Query) → query_tokens query ≡ query_tokens other → query ≡ other
queries_one query other e =
    let summed : query.summed ≡ other.summed = cc in
    let table : query.table ≡ other.table = cc in
    let rest : where_tokens query.condition ≡ where_tokens other.condition = cc in
    let condition : query.condition ≡ other.condition = conditions_one query.condition other.condition rest in
    λ i. record { summed = summed i; table = table i; condition = condition i }

pub Spells-one : (text : List ℕ) (query other : Query) → Spells text query → Spells text other → query ≡ other
Spells-one text query other p q = queries_one query other (AreTokens-one text (query_tokens query) (query_tokens other) p.tokens q.tokens)
