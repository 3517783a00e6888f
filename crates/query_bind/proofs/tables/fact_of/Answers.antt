use Rattle.std.proofs.Common.{ℕ, arith, get_or, sym, ◌∙◌}
use Rattle.query_text.specs.Views.{word_view, words_view}
use Rattle.query_bind.specs.Binding.{is_fact}
use Rattle.query_bind.proofs.JoinLemmas.{skipped, taken, nothing_left, first_found, second_refused}
use Rattle.query_bind.proofs.PlaceLemmas.{get_or_same}
use Rattle.query_bind.proofs.tables.fact_of.Goals as goal

pub loop-place-preserved-then-not-is_fact : goal.loop-place-preserved-then-not-is_fact
loop-place-preserved-then-not-is_fact c =
    let l = c.loop-place in
    let table : ℕ = get_or c.args.tables.now l.place 0 in
    let next = skipped word_view c.args.words.now c.args.tables.now l.place c.index-words-place.result table (omega (arith, c.requires, c.loop-place-test.true)) c.loop-place-test.true
    c.index-words-place.is (get_or_same c.args.tables.now l.place 0 table c.loop-place-test.true) (λ named. is_fact c.args.schema.now named.1) (sym c.is_fact.ensures ∙ c.if-not-is_fact.true) in
    rw next at l.invariant

pub returns-then-is_some : goal.returns-then-is_some
returns-then-is_some c = λ other.
    let l = c.loop-place in
    let table : ℕ = get_or c.args.tables.now l.place 0 in
    let next = taken word_view c.args.words.now c.args.tables.now l.place c.index-words-place.result table (omega (arith, c.requires, c.loop-place-test.true)) c.loop-place-test.true
    c.index-words-place.is (get_or_same c.args.tables.now l.place 0 table c.loop-place-test.true) (λ named. is_fact c.args.schema.now named.1) (sym c.is_fact.ensures ∙ c.if-not-is_fact.false) in
    (rw next at l.invariant) ∙ second_refused (words_view c.args.words.now) l.fact (word_view c.index-words-place.result) table _ (sym c.is_some.ensures ∙ c.if-is_some.true)

pub loop-place-preserved : goal.loop-place-preserved
loop-place-preserved c =
    let l = c.loop-place in
    let table : ℕ = get_or c.args.tables.now l.place 0 in
    let next = taken word_view c.args.words.now c.args.tables.now l.place c.index-words-place.result table (omega (arith, c.requires, c.loop-place-test.true)) c.loop-place-test.true
    c.index-words-place.is (get_or_same c.args.tables.now l.place 0 table c.loop-place-test.true) (λ named. is_fact c.args.schema.now named.1) (sym c.is_fact.ensures ∙ c.if-not-is_fact.false) in
    (rw next at l.invariant) ∙ first_found (words_view c.args.words.now) l.fact (word_view c.index-words-place.result) table _ (sym c.is_some.ensures ∙ c.if-is_some.false)

pub returns-in-Some : goal.returns-in-Some
returns-in-Some c =
    let l = c.loop-place in
    let none = nothing_left word_view c.args.words.now c.args.tables.now l.place (λ named. is_fact c.args.schema.now named.1) c.loop-place-test.false in
    rw c.in-Some.is at (rw none at l.invariant)

pub returns-in-None : goal.returns-in-None
returns-in-None c = λ other.
    let l = c.loop-place in
    let none = nothing_left word_view c.args.words.now c.args.tables.now l.place (λ named. is_fact c.args.schema.now named.1) c.loop-place-test.false in
    rw c.first_place.ensures (rw c.in-None.is at (rw none at l.invariant))
