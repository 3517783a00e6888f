use Rattle.std.proofs.Common.{◌≡◌, ◌++◌, ◌∷◌, [], refl}
use Rattle.std.proofs.lemmas.Result.{err_from_is_err_and}
use Rattle.std.proofs.lemmas.List.{map_push}
use Rattle.query_text.specs.Views.{tokens_view, query_view, queries_view}
use Rattle.query_text.proofs.QueriesLoop.{begins_queries, first_fails, one_more_query, next_fails, last_fails, all_read, fewer}
use Rattle.query_text.proofs.queries.queries.Goals as goal

pub returns-in_err-first : goal.returns-in_err-first
returns-in_err-first c =
    let p = err_from_is_err_and c.from_residual.result c.from_residual.ensures.1 in
    rw (p.1, p.2) (first_fails c.in_err-first.field-0.0 (tokens_view c.args.tokens.now) c.in_err-first.ensures)

pub loop-after-init : goal.loop-after-init
loop-after-init c =
    let e : queries_view c.push.new.self.items ≡ query_view c.in_ok-first.first ∷ [] = rw (c.in_ok-push.ensures.items, c.new-queries.ensures.items) refl in
    rw e (begins_queries (tokens_view c.args.tokens.now) (tokens_view c.in_ok-first.rest.now) (query_view c.in_ok-first.first) c.in_ok-first.ensures)

pub returns-in_err-next : goal.returns-in_err-next
returns-in_err-next c =
    let p = err_from_is_err_and c.from_residual-in_err-next.result c.from_residual-in_err-next.ensures.1 in
    rw (p.1, p.2) (next_fails c.in_err-next.field-0.0 (queries_view c.loop-after.queries.items) (tokens_view c.loop-after.rest.now) (tokens_view c.in-Some.after.now) _
    c.in-Some.ensures c.in_err-next.ensures c.loop-after.invariant)

pub loop-after-smaller : goal.loop-after-smaller
loop-after-smaller c =
    fewer c.loop-after.rest.now c.in-Some.after.now c.in_ok-next.after.now (query_view c.in_ok-next.next) c.in-Some.ensures c.in_ok-next.ensures

pub loop-after-preserved : goal.loop-after-preserved
loop-after-preserved c =
    let e : queries_view c.push-in-Some.new.self.items ≡ queries_view c.loop-after.queries.items ++ query_view c.in_ok-next.next ∷ [] =
    rw c.in_ok-push-2.ensures.items (map_push _ c.loop-after.queries.items c.in_ok-next.next) in
    rw e (one_more_query (queries_view c.loop-after.queries.items) (query_view c.in_ok-next.next) (tokens_view c.loop-after.rest.now) (tokens_view c.in-Some.after.now) (tokens_view c.in_ok-next.after.now) _
    c.in-Some.ensures c.in_ok-next.ensures c.loop-after.invariant)

pub returns-in_err-finish : goal.returns-in_err-finish
returns-in_err-finish c =
    let p = err_from_is_err_and c.from_residual-in_err-finish.result c.from_residual-in_err-finish.ensures.1 in
    rw (p.1, p.2) (last_fails c.in_err-finish.field-0.0 (queries_view c.loop-after.queries.items) (tokens_view c.loop-after.rest.now) _ c.in_default.ensures c.in_err-finish.ensures c.loop-after.invariant)

pub returns : goal.returns
returns c =
    rw c.from_vec.ensures
    (all_read (queries_view c.loop-after.queries.items) (tokens_view c.loop-after.rest.now) _ c.in_default.ensures c.in_ok-finish.ensures c.loop-after.invariant)
