use Rattle.std.proofs.Common.{◌≡◌, ℕ, List, ◌++◌, ◌∷◌, [], refl, arith}
use Rattle.std.specs.Prelude.{codes}
use Rattle.std.specs.Str.{str_to_ascii_lowercase}
use Rattle.std.proofs.lemmas.Result.{err_from_is_err_and}
use Rattle.std.proofs.lemmas.List.{length-append}
use Rattle.query_text.specs.Reading.{literal_at, alternative_at, choices_at}
use Rattle.query_text.specs.Views.{tokens_view, placed_view, literals_view}
use Rattle.query_text.proofs.ReaderLaws.{none}
use Rattle.query_text.proofs.ListLaws.{Shortens, Lawful-shortens}
use Rattle.query_text.proofs.LawfulParts.{Lawful-alternative}
use Rattle.query_text.proofs.LoopLemmas.{begins_other, goes_on, fails_on, fails_other, is_done, smaller, literals_view-push}
use Rattle.query_text.proofs.conditions.choices.Goals as goal

short : (text : List ℕ) → Shortens (alternative_at text)
short text = Lawful-shortens (alternative_at text) none (Lawful-alternative text)

pub returns-in_err-value-clause-read : goal.returns-in_err-value-clause-read
unfolding choices_at
returns-in_err-value-clause-read c =
    let p = err_from_is_err_and c.from_residual.result c.from_residual.ensures.1 in
    rw (p.1, p.2) (fails_other c.in_err-value.field-0.0 (codes "or") literal_at (alternative_at (str_to_ascii_lowercase c.args.expected.now)) (tokens_view c.args.tokens.now) c.in_err-value.ensures)

pub loop-after-init : goal.loop-after-init
unfolding choices_at
loop-after-init c =
    let e : literals_view c.push.new.self.items c.push-2.new.self.items ≡ placed_view c.in_ok-value.value c.in_ok-value.at ∷ [] =
    rw (c.in_ok-push.ensures.items, c.new-values.ensures.items, c.in_ok-push-2.ensures.items, c.new-places.ensures.items) refl in
    record {
      read = rw e (begins_other (codes "or") literal_at (alternative_at (str_to_ascii_lowercase c.args.expected.now)) (tokens_view c.args.tokens.now) (tokens_view c.in_ok-value.rest.now) (placed_view c.in_ok-value.value c.in_ok-value.at) c.in_ok-value.ensures);
      alike = rw (c.in_ok-push.ensures.items, c.new-values.ensures.items, c.in_ok-push-2.ensures.items, c.new-places.ensures.items) refl;
    }

pub returns-in_err-value-2-clause-read : goal.returns-in_err-value-2-clause-read
returns-in_err-value-2-clause-read c =
    let p = err_from_is_err_and c.from_residual-in_err-value-2.result c.from_residual-in_err-value-2.ensures.1 in
    rw (p.1, p.2) (fails_on c.in_err-value-2.field-0.0 (codes "or") (alternative_at (str_to_ascii_lowercase c.args.expected.now)) (literals_view c.loop-after.values.items c.loop-after.places.items) (tokens_view c.loop-after.rest.now) (tokens_view c.in-Some.after.now) _
    (short (str_to_ascii_lowercase c.args.expected.now)) c.in-Some.ensures c.in_err-value-2.ensures c.loop-after.invariant.read)

pub loop-after-smaller : goal.loop-after-smaller
loop-after-smaller c =
    smaller (codes "or") (alternative_at (str_to_ascii_lowercase c.args.expected.now)) c.loop-after.rest.now c.in-Some.after.now c.in_ok-value-2.after.now (placed_view c.in_ok-value-2.value c.in_ok-value-2.at) (short (str_to_ascii_lowercase c.args.expected.now)) c.in-Some.ensures c.in_ok-value-2.ensures

pub loop-after-preserved : goal.loop-after-preserved
loop-after-preserved c =
    let literal = placed_view c.in_ok-value-2.value c.in_ok-value-2.at in
    let e : literals_view c.push-in-Some.new.self.items c.push-in-Some-2.new.self.items ≡ literals_view c.loop-after.values.items c.loop-after.places.items ++ literal ∷ [] =
    rw (c.in_ok-push-3.ensures.items, c.in_ok-push-4.ensures.items) (literals_view-push c.loop-after.values.items c.loop-after.places.items c.in_ok-value-2.value c.in_ok-value-2.at c.loop-after.invariant.alike) in
    record {
      read = rw e (goes_on (codes "or") (alternative_at (str_to_ascii_lowercase c.args.expected.now)) (literals_view c.loop-after.values.items c.loop-after.places.items) literal (tokens_view c.loop-after.rest.now) (tokens_view c.in-Some.after.now) (tokens_view c.in_ok-value-2.after.now) _
          (short (str_to_ascii_lowercase c.args.expected.now)) c.in-Some.ensures c.in_ok-value-2.ensures c.loop-after.invariant.read);
      alike = rw (c.in_ok-push-3.ensures.items, c.in_ok-push-4.ensures.items)
          (omega (arith, c.loop-after.invariant.alike, length-append c.loop-after.values.items (c.in_ok-value-2.value ∷ []), length-append c.loop-after.places.items (c.in_ok-value-2.at ∷ [])));
    }

pub returns-clause-read : goal.returns-clause-read
returns-clause-read c =
    is_done (codes "or") (alternative_at (str_to_ascii_lowercase c.args.expected.now)) (literals_view c.loop-after.values.items c.loop-after.places.items) (tokens_view c.loop-after.rest.now) (choices_at (str_to_ascii_lowercase c.args.expected.now) (tokens_view c.args.tokens.now)) (short (str_to_ascii_lowercase c.args.expected.now)) c.in_default.ensures c.loop-after.invariant.read
