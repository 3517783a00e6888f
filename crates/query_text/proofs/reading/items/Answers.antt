use Rattle.std.proofs.Common.{◌≡◌, ◌++◌, ◌∷◌, [], refl}
use Rattle.std.specs.Prelude.{codes}
use Rattle.std.proofs.lemmas.Result.{err_from_is_err_and}
use Rattle.std.proofs.lemmas.List.{map_push}
use Rattle.query_text.specs.Reading.{list_at, item_at}
use Rattle.query_text.specs.Views.{tokens_view, item_view, items_view}
use Rattle.query_text.proofs.ListLaws.{Shortens, Lawful-shortens}
use Rattle.query_text.proofs.LawfulParts.{is_as, Lawful-item}
use Rattle.query_text.proofs.LoopLemmas.{begins_list, goes_on, fails_on, fails_first, is_done, smaller}
use Rattle.query_text.proofs.reading.items.Goals as goal

short : Shortens item_at
short = Lawful-shortens item_at is_as Lawful-item

pub returns-in_err-first : goal.returns-in_err-first
returns-in_err-first c =
    let p = err_from_is_err_and c.from_residual.result c.from_residual.ensures.1 in
    rw (p.1, p.2) (fails_first c.in_err-first.field-0.0 (codes ",") item_at (tokens_view c.args.tokens.now) c.in_err-first.ensures)

pub loop-after-init : goal.loop-after-init
loop-after-init c =
    let e : items_view c.push.new.self.items ≡ item_view c.in_ok-first.first ∷ [] = rw (c.in_ok-push.ensures.items, c.new-items.ensures.items) refl in
    rw e (begins_list (codes ",") item_at (tokens_view c.args.tokens.now) (tokens_view c.in_ok-first.rest.now) (item_view c.in_ok-first.first) c.in_ok-first.ensures)

pub returns-in_err-next : goal.returns-in_err-next
returns-in_err-next c =
    let p = err_from_is_err_and c.from_residual-in_err-next.result c.from_residual-in_err-next.ensures.1 in
    rw (p.1, p.2) (fails_on c.in_err-next.field-0.0 (codes ",") item_at (items_view c.loop-after.items.items) (tokens_view c.loop-after.rest.now) (tokens_view c.in-Some.after.now) _
    short c.in-Some.ensures c.in_err-next.ensures c.loop-after.invariant)

pub loop-after-smaller : goal.loop-after-smaller
loop-after-smaller c =
    smaller (codes ",") item_at c.loop-after.rest.now c.in-Some.after.now c.in_ok-next.after.now (item_view c.in_ok-next.next) short c.in-Some.ensures c.in_ok-next.ensures

pub loop-after-preserved : goal.loop-after-preserved
loop-after-preserved c =
    let e : items_view c.push-in-Some.new.self.items ≡ items_view c.loop-after.items.items ++ item_view c.in_ok-next.next ∷ [] =
    rw c.in_ok-push-2.ensures.items (map_push _ c.loop-after.items.items c.in_ok-next.next) in
    rw e (goes_on (codes ",") item_at (items_view c.loop-after.items.items) (item_view c.in_ok-next.next) (tokens_view c.loop-after.rest.now) (tokens_view c.in-Some.after.now) (tokens_view c.in_ok-next.after.now) _
    short c.in-Some.ensures c.in_ok-next.ensures c.loop-after.invariant)

pub returns : goal.returns
returns c =
    rw c.from_vec.ensures
    (is_done (codes ",") item_at (items_view c.loop-after.items.items) (tokens_view c.loop-after.rest.now) (list_at (codes ",") item_at (tokens_view c.args.tokens.now)) short c.in_default.ensures c.loop-after.invariant)
