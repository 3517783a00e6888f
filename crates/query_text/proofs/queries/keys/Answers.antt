use Rattle.std.proofs.Common.{◌≡◌, ◌++◌, ◌∷◌, [], refl}
use Rattle.std.specs.Prelude.{codes}
use Rattle.std.proofs.lemmas.Result.{err_from_is_err_and}
use Rattle.std.proofs.lemmas.List.{map_push}
use Rattle.query_text.specs.Reading.{list_at, key_at}
use Rattle.query_text.specs.Views.{tokens_view, key_view, keys_view}
use Rattle.query_text.proofs.ListLaws.{Shortens, Lawful-shortens}
use Rattle.query_text.proofs.LawfulParts.{directions, Lawful-key}
use Rattle.query_text.proofs.LoopLemmas.{begins_list, goes_on, fails_on, fails_first, is_done, smaller}
use Rattle.query_text.proofs.queries.keys.Goals as goal

short : Shortens key_at
short = Lawful-shortens key_at directions Lawful-key

pub returns-in_err-first : goal.returns-in_err-first
returns-in_err-first c =
    let p = err_from_is_err_and c.from_residual.result c.from_residual.ensures.1 in
    rw (p.1, p.2) (fails_first c.in_err-first.field-0.0 (codes ",") key_at (tokens_view c.args.tokens.now) c.in_err-first.ensures)

pub loop-after-init : goal.loop-after-init
loop-after-init c =
    let e : keys_view c.push.new.self.items ≡ key_view c.in_ok-first.first ∷ [] = rw (c.in_ok-push.ensures.items, c.new-keys.ensures.items) refl in
    rw e (begins_list (codes ",") key_at (tokens_view c.args.tokens.now) (tokens_view c.in_ok-first.rest.now) (key_view c.in_ok-first.first) c.in_ok-first.ensures)

pub returns-in_err-next : goal.returns-in_err-next
returns-in_err-next c =
    let p = err_from_is_err_and c.from_residual-in_err-next.result c.from_residual-in_err-next.ensures.1 in
    rw (p.1, p.2) (fails_on c.in_err-next.field-0.0 (codes ",") key_at (keys_view c.loop-after.keys.items) (tokens_view c.loop-after.rest.now) (tokens_view c.in-Some.after.now) _
    short c.in-Some.ensures c.in_err-next.ensures c.loop-after.invariant)

pub loop-after-smaller : goal.loop-after-smaller
loop-after-smaller c =
    smaller (codes ",") key_at c.loop-after.rest.now c.in-Some.after.now c.in_ok-next.after.now (key_view c.in_ok-next.next) short c.in-Some.ensures c.in_ok-next.ensures

pub loop-after-preserved : goal.loop-after-preserved
loop-after-preserved c =
    let e : keys_view c.push-in-Some.new.self.items ≡ keys_view c.loop-after.keys.items ++ key_view c.in_ok-next.next ∷ [] =
    rw c.in_ok-push-2.ensures.items (map_push _ c.loop-after.keys.items c.in_ok-next.next) in
    rw e (goes_on (codes ",") key_at (keys_view c.loop-after.keys.items) (key_view c.in_ok-next.next) (tokens_view c.loop-after.rest.now) (tokens_view c.in-Some.after.now) (tokens_view c.in_ok-next.after.now) _
    short c.in-Some.ensures c.in_ok-next.ensures c.loop-after.invariant)

pub returns : goal.returns
returns c =
    rw c.from_vec.ensures
    (is_done (codes ",") key_at (keys_view c.loop-after.keys.items) (tokens_view c.loop-after.rest.now) (list_at (codes ",") key_at (tokens_view c.args.tokens.now)) short c.in_default.ensures c.loop-after.invariant)
