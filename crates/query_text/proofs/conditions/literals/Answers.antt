use Rattle.std.proofs.Common.{◌≡◌, ◌++◌, ◌∷◌, [], refl, arith}
use Rattle.std.specs.Prelude.{codes}
use Rattle.std.proofs.lemmas.Result.{err_from_is_err_and}
use Rattle.std.proofs.lemmas.List.{length-append}
use Rattle.query_text.specs.Reading.{list_at, literal_at}
use Rattle.query_text.specs.Views.{tokens_view, placed_view, literals_view}
use Rattle.query_text.proofs.ReaderLaws.{none}
use Rattle.query_text.proofs.ListLaws.{Shortens, Lawful-shortens}
use Rattle.query_text.proofs.LawfulParts.{Lawful-literal}
use Rattle.query_text.proofs.LoopLemmas.{begins_list, goes_on, fails_on, fails_first, is_done, smaller, literals_view-push}
use Rattle.query_text.proofs.conditions.literals.Goals as goal

short : Shortens literal_at
short = Lawful-shortens literal_at none (Lawful-literal none)

pub returns-in_err-value-clause-read : goal.returns-in_err-value-clause-read
returns-in_err-value-clause-read c =
    let p = err_from_is_err_and c.from_residual.result c.from_residual.ensures.1 in
    rw (p.1, p.2) (fails_first c.in_err-value.field-0.0 (codes ",") literal_at (tokens_view c.args.tokens.now) c.in_err-value.ensures)

pub loop-after-init : goal.loop-after-init
loop-after-init c =
    let e : literals_view c.push.new.self.items c.push-2.new.self.items ≡ placed_view c.in_ok-value.value c.in_ok-value.at ∷ [] =
    rw (c.in_ok-push.ensures.items, c.new-values.ensures.items, c.in_ok-push-2.ensures.items, c.new-places.ensures.items) refl in
    record {
      read = rw e (begins_list (codes ",") literal_at (tokens_view c.args.tokens.now) (tokens_view c.in_ok-value.rest.now) (placed_view c.in_ok-value.value c.in_ok-value.at) c.in_ok-value.ensures);
      alike = rw (c.in_ok-push.ensures.items, c.new-values.ensures.items, c.in_ok-push-2.ensures.items, c.new-places.ensures.items) refl;
    }

pub returns-in_err-value-2-clause-read : goal.returns-in_err-value-2-clause-read
returns-in_err-value-2-clause-read c =
    let p = err_from_is_err_and c.from_residual-in_err-value-2.result c.from_residual-in_err-value-2.ensures.1 in
    rw (p.1, p.2) (fails_on c.in_err-value-2.field-0.0 (codes ",") literal_at (literals_view c.loop-after.values.items c.loop-after.places.items) (tokens_view c.loop-after.rest.now) (tokens_view c.in-Some.after.now) _
    short c.in-Some.ensures c.in_err-value-2.ensures c.loop-after.invariant.read)

pub loop-after-smaller : goal.loop-after-smaller
loop-after-smaller c =
    smaller (codes ",") literal_at c.loop-after.rest.now c.in-Some.after.now c.in_ok-value-2.after.now (placed_view c.in_ok-value-2.value c.in_ok-value-2.at) short c.in-Some.ensures c.in_ok-value-2.ensures

pub loop-after-preserved : goal.loop-after-preserved
loop-after-preserved c =
    let literal = placed_view c.in_ok-value-2.value c.in_ok-value-2.at in
    let e : literals_view c.push-in-Some.new.self.items c.push-in-Some-2.new.self.items ≡ literals_view c.loop-after.values.items c.loop-after.places.items ++ literal ∷ [] =
    rw (c.in_ok-push-3.ensures.items, c.in_ok-push-4.ensures.items) (literals_view-push c.loop-after.values.items c.loop-after.places.items c.in_ok-value-2.value c.in_ok-value-2.at c.loop-after.invariant.alike) in
    record {
      read = rw e (goes_on (codes ",") literal_at (literals_view c.loop-after.values.items c.loop-after.places.items) literal (tokens_view c.loop-after.rest.now) (tokens_view c.in-Some.after.now) (tokens_view c.in_ok-value-2.after.now) _
          short c.in-Some.ensures c.in_ok-value-2.ensures c.loop-after.invariant.read);
      alike = rw (c.in_ok-push-3.ensures.items, c.in_ok-push-4.ensures.items)
          (omega (arith, c.loop-after.invariant.alike, length-append c.loop-after.values.items (c.in_ok-value-2.value ∷ []), length-append c.loop-after.places.items (c.in_ok-value-2.at ∷ [])));
    }

pub returns-clause-read : goal.returns-clause-read
returns-clause-read c =
    is_done (codes ",") literal_at (literals_view c.loop-after.values.items c.loop-after.places.items) (tokens_view c.loop-after.rest.now) (list_at (codes ",") literal_at (tokens_view c.args.tokens.now)) short c.in_default.ensures c.loop-after.invariant.read
