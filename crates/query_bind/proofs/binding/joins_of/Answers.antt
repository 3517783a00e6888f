use Rattle.std.proofs.Common.{ℕ, not, arith, get_or, length}
use Rattle.std.specs.Prelude.{◌==◌}
use Rattle.std.proofs.lemmas.Bool.{not_from_true, not_from_false, eq-eqb, ne_eqb}
use Rattle.std.proofs.lemmas.List.{length_push}
use Rattle.definitions_outcomes.proofs.ComputedLaws.{walk_goes, walk_stops, walk_ends}
use Rattle.query_text.specs.Views.{word_view, words_view}
use Rattle.query_bind.specs.Binding.{join_to, joins_of}
use Rattle.query_bind.proofs.AccumulateLemmas.{handed}
use Rattle.query_bind.proofs.JoinLemmas.{skipped, taken, nothing_left}
use Rattle.query_bind.proofs.PlaceLemmas.{get_or_same}
use Rattle.query_bind.proofs.binding.joins_of.Goals as goal

pub loop-place-preserved-then-table-fact : goal.loop-place-preserved-then-table-fact
loop-place-preserved-then-table-fact c =
    let l = c.loop-place in
    let table : ℕ = get_or c.args.tables.now l.place 0 in
    let next = skipped word_view c.args.words.now c.args.tables.now l.place c.index-words-place.result table (omega (arith, c.requires, c.loop-place-test.true)) c.loop-place-test.true
    c.index-words-place.is (get_or_same c.args.tables.now l.place 0 table c.loop-place-test.true) (λ named. not (named.1 == c.args.fact))
    (not_from_true (table == c.args.fact) (eq-eqb table c.args.fact c.if-table-fact.true)) in
    rw next at l.invariant

pub returns-in_err-join_to : goal.returns-in_err-join_to
returns-in_err-join_to c =
    let l = c.loop-place in
    let table : ℕ = get_or c.args.tables.now l.place 0 in
    let given = c.in_err-join_to.field-0.0 in
    let next = taken word_view c.args.words.now c.args.tables.now l.place c.index-words-place.result table (omega (arith, c.requires, c.loop-place-test.true)) c.loop-place-test.true
    c.index-words-place.is (get_or_same c.args.tables.now l.place 0 table c.loop-place-test.true) (λ named. not (named.1 == c.args.fact))
    (not_from_false (table == c.args.fact) (ne_eqb table c.args.fact c.if-table-fact.false)) in
    handed (λ ordered. ordered.items) (joins_of c.args.fact c.args.joins.now (words_view c.args.words.now) c.args.tables.now) c.from_residual.result given c.from_residual.ensures.1
    (λ other. walk_stops (λ number. join_to c.args.joins.now) _ l.ordered.items (length l.ordered.items) (word_view c.index-words-place.result, table) _ given (c.in_err-join_to.ensures other) (rw next at l.invariant))

pub loop-place-preserved : goal.loop-place-preserved
loop-place-preserved c =
    let l = c.loop-place in
    let table : ℕ = get_or c.args.tables.now l.place 0 in
    let next = taken word_view c.args.words.now c.args.tables.now l.place c.index-words-place.result table (omega (arith, c.requires, c.loop-place-test.true)) c.loop-place-test.true
    c.index-words-place.is (get_or_same c.args.tables.now l.place 0 table c.loop-place-test.true) (λ named. not (named.1 == c.args.fact))
    (not_from_false (table == c.args.fact) (ne_eqb table c.args.fact c.if-table-fact.false)) in
    let one = c.in_ok-join_to.field-0 in
    rw (c.in_ok-push.ensures.items, length_push l.ordered.items one)
    (walk_goes (λ number. join_to c.args.joins.now) _ l.ordered.items (length l.ordered.items) (word_view c.index-words-place.result, table) _ one c.in_ok-join_to.ensures (rw next at l.invariant))

pub returns : goal.returns
returns c =
    let l = c.loop-place in
    walk_ends (λ number. join_to c.args.joins.now) _ l.ordered.items (length l.ordered.items)
    (rw (nothing_left word_view c.args.words.now c.args.tables.now l.place (λ named. not (named.1 == c.args.fact)) c.loop-place-test.false) at l.invariant)
