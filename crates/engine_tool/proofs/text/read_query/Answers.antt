use Rattle.std.proofs.Common.{◌≡◌, ℕ, List, ◌++◌, refl, subst}
use Rattle.engine_tool.specs.Tokens.{Begins}
use Rattle.engine_tool.specs.Queries.{Query, item_tokens, table_tokens, where_tokens, query_tokens}
use Rattle.engine_tool.specs.Texts.{query_view}
use Rattle.engine_tool.proofs.TextLemmas.{Begins-split, Begins-join, Begins-rest}
use Rattle.engine_tool.proofs.text.read_query.Goals as goal

-- the three parts of a query's tokens, and what follows each
record Parts (text : List ℕ) (query : Query) (end : List ℕ) : Type 0 where
  item : List ℕ
  table : List ℕ
  first : Begins text (item_tokens query.summed) item
  second : Begins item (table_tokens query.table) table
  third : Begins table (where_tokens query.condition) end

parts : (text end : List ℕ) (query : Query) → Begins text (query_tokens query) end → Parts text query end
parts text end query begins =
    let late = Begins-split (item_tokens query.summed ++ table_tokens query.table) (where_tokens query.condition) text end begins in
    let early = Begins-split (item_tokens query.summed) (table_tokens query.table) text late.0 late.1 in
    record { item = early.0; table = late.0; first = early.1; second = early.2; third = late.2 }

pub returns-in_err-summed : goal.returns-in_err-summed
returns-in_err-summed c = rw c.from_residual.ensures (λ query spells.
    let p = parts _ _ query spells.tokens.1 in
    c.in_err-summed.ensures query.summed p.item spells.summed p.first)

pub returns-in_err-table : goal.returns-in_err-table
returns-in_err-table c = rw c.from_residual-in_err-table.ensures (λ query spells.
    let p = parts _ _ query spells.tokens.1 in
    let same : p.item ≡ c.in_ok-summed.rest.now = Begins-rest (item_tokens query.summed) (item_tokens c.in_ok-summed.summed) _ _ _ refl p.first c.in_ok-summed.ensures.1 in
    c.in_err-table.ensures query.table p.table spells.table (subst (λ t. Begins t (table_tokens query.table) p.table) same p.second))

pub returns-in_err-condition : goal.returns-in_err-condition
returns-in_err-condition c = rw c.from_residual-in_err-condition.ensures (λ query spells.
    let p = parts _ _ query spells.tokens.1 in
    let same : p.item ≡ c.in_ok-summed.rest.now = Begins-rest (item_tokens query.summed) (item_tokens c.in_ok-summed.summed) _ _ _ refl p.first c.in_ok-summed.ensures.1 in
    let second : Begins c.in_ok-summed.rest.now (table_tokens query.table) p.table = subst (λ t. Begins t (table_tokens query.table) p.table) same p.second in
    let same_too : p.table ≡ c.in_ok-table.rest.now = Begins-rest (table_tokens query.table) (table_tokens c.in_ok-table.table) _ _ _ refl second c.in_ok-table.ensures.1 in
    c.in_err-condition.ensures query.condition spells.tested
    (spells.tokens.0, subst (λ t. Begins t (where_tokens query.condition) spells.tokens.0) same_too p.third, spells.tokens.2))

pub returns : goal.returns
returns c =
    let read = query_view record { summed = c.in_ok-summed.summed; table = c.in_ok-table.table; condition = c.in_ok-condition.condition } in
    let found = c.in_ok-condition.ensures.1 in
    let early = Begins-join (item_tokens read.summed) (table_tokens read.table) c.args.text.now _ _ c.in_ok-summed.ensures.1 c.in_ok-table.ensures.1 in
    let whole = Begins-join (item_tokens read.summed ++ table_tokens read.table) (where_tokens read.condition) c.args.text.now _ _ early found.1 in
    record { tokens = (found.0, whole, found.2); summed = c.in_ok-summed.ensures.0; table = c.in_ok-table.ensures.0; tested = c.in_ok-condition.ensures.0 }
