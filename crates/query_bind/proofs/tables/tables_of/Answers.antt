use Rattle.std.proofs.Common.{rules, arith, ◌++◌, ◌∷◌, [], ap, ℕ}
use Rattle.std.specs.Prelude.{Result, Ok}
use Rattle.std.proofs.lemmas.List.{length-append}
use Rattle.definitions_outcomes.specs.Computed.{bind}
use Rattle.query_text.specs.Views.{word_view, words_view}
use Rattle.query_bind.specs.Binding.{next_table, tables_of}
use Rattle.query_bind.specs.declared.errors.BindError.{BindError}
use Rattle.query_bind.proofs.AccumulateLemmas.{goes, stops, handed}
use Rattle.query_bind.proofs.tables.tables_of.Goals as goal

pub returns-in_err-table-clause-tables : goal.returns-in_err-table-clause-tables
returns-in_err-table-clause-tables c =
    let l = c.loop-word in
    let earlier = l.tables.items in
    let word = c.word-item.result in
    let given = c.in_err-table.field-0.0 in
    handed (λ tables. tables.items) (tables_of c.args.schema.now (words_view c.args.words.now)) c.from_residual.result given c.from_residual.ensures.1
    (λ other. stops (next_table c.args.schema.now) word_view c.args.words.now _ earlier l.word-index word (search rules) c.word-item.is given
    (ap (λ (r : Result ℕ BindError). bind r (λ table. Ok (earlier ++ table ∷ []))) (rw c.as_slice.ensures.value at (c.in_err-table.ensures.table other))) l.invariant.whole)

pub loop-word-preserved : goal.loop-word-preserved
loop-word-preserved c =
    let l = c.loop-word in
    let earlier = l.tables.items in
    let word = c.word-item.result in
    let table = c.in_ok-table.table in
    record {
      count = rw (c.in_ok-push.ensures.items, length-append earlier (table ∷ [])) (omega (arith, l.invariant.count));
      whole = rw c.in_ok-push.ensures.items
          (goes (next_table c.args.schema.now) word_view c.args.words.now _ earlier l.word-index word (search rules) c.word-item.is (earlier ++ table ∷ [])
          (ap (λ (r : Result ℕ BindError). bind r (λ table. Ok (earlier ++ table ∷ []))) (rw c.as_slice.ensures.value at c.in_ok-table.ensures.table)) l.invariant.whole);
    }
