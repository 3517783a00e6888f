use Rattle.std.proofs.Common.{◌≡◌, ◌++◌, ◌∷◌, [], refl}
use Rattle.std.specs.Prelude.{codes}
use Rattle.std.proofs.lemmas.Result.{err_from_is_err_and}
use Rattle.std.proofs.lemmas.List.{map_push}
use Rattle.query_text.specs.Reading.{list_at, name_at}
use Rattle.query_text.specs.Views.{tokens_view, word_view, words_view}
use Rattle.query_text.proofs.ListLaws.{Shortens, Lawful-shortens}
use Rattle.query_text.proofs.ReaderLaws.{none}
use Rattle.query_text.proofs.LawfulParts.{Lawful-name}
use Rattle.query_text.proofs.LoopLemmas.{begins_list, goes_on, fails_on, fails_first, is_done, smaller}
use Rattle.query_text.proofs.reading.names.Goals as goal

short : Shortens name_at
short = Lawful-shortens name_at none (Lawful-name none)

pub returns-in_err-first : goal.returns-in_err-first
returns-in_err-first c =
    let p = err_from_is_err_and c.from_residual.result c.from_residual.ensures.1 in
    rw (p.1, p.2) (fails_first c.in_err-first.field-0.0 (codes ",") name_at (tokens_view c.args.tokens.now) c.in_err-first.ensures)

pub loop-after-init : goal.loop-after-init
loop-after-init c =
    let e : words_view c.push.new.self.items ≡ word_view c.in_ok-first.first ∷ [] = rw (c.in_ok-push.ensures.items, c.new-names.ensures.items) refl in
    rw e (begins_list (codes ",") name_at (tokens_view c.args.tokens.now) (tokens_view c.in_ok-first.rest.now) (word_view c.in_ok-first.first) c.in_ok-first.ensures)

pub returns-in_err-next : goal.returns-in_err-next
returns-in_err-next c =
    let p = err_from_is_err_and c.from_residual-in_err-next.result c.from_residual-in_err-next.ensures.1 in
    rw (p.1, p.2) (fails_on c.in_err-next.field-0.0 (codes ",") name_at (words_view c.loop-after.names.items) (tokens_view c.loop-after.rest.now) (tokens_view c.in-Some.after.now) _
    short c.in-Some.ensures c.in_err-next.ensures c.loop-after.invariant)

pub loop-after-smaller : goal.loop-after-smaller
loop-after-smaller c =
    smaller (codes ",") name_at c.loop-after.rest.now c.in-Some.after.now c.in_ok-next.after.now (word_view c.in_ok-next.next) short c.in-Some.ensures c.in_ok-next.ensures

pub loop-after-preserved : goal.loop-after-preserved
loop-after-preserved c =
    let e : words_view c.push-in-Some.new.self.items ≡ words_view c.loop-after.names.items ++ word_view c.in_ok-next.next ∷ [] =
    rw c.in_ok-push-2.ensures.items (map_push _ c.loop-after.names.items c.in_ok-next.next) in
    rw e (goes_on (codes ",") name_at (words_view c.loop-after.names.items) (word_view c.in_ok-next.next) (tokens_view c.loop-after.rest.now) (tokens_view c.in-Some.after.now) (tokens_view c.in_ok-next.after.now) _
    short c.in-Some.ensures c.in_ok-next.ensures c.loop-after.invariant)

pub returns : goal.returns
returns c =
    rw c.from_vec.ensures
    (is_done (codes ",") name_at (words_view c.loop-after.names.items) (tokens_view c.loop-after.rest.now) (list_at (codes ",") name_at (tokens_view c.args.tokens.now)) short c.in_default.ensures c.loop-after.invariant)
