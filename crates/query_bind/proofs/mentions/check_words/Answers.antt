use Rattle.query_text.specs.Views.{word_view, words_view}
use Rattle.query_bind.specs.Binding.{are_of_from}
use Rattle.query_bind.proofs.AccumulateLemmas.{handed_on}
use Rattle.query_bind.proofs.MentionLemmas.{word_goes, word_stops}
use Rattle.query_bind.proofs.mentions.check_words.Goals as goal

pub returns-in_err-column_in : goal.returns-in_err-column_in
returns-in_err-column_in c =
    let l = c.loop-word in
    let given = c.in_err-column_in.field-0.0 in
    let whole = are_of_from c.args.index.now c.args.tables.now (words_view c.args.words.now) in
    handed_on whole c.from_residual.result given c.from_residual.ensures.1
    (λ other. word_stops c.args.index.now c.args.tables.now word_view c.args.words.now whole l.word-index c.word-item.result c.loop-word-test.true c.word-item.is given
    (c.in_err-column_in.ensures other) l.invariant)

pub loop-word-preserved : goal.loop-word-preserved
loop-word-preserved c =
    let l = c.loop-word in
    let whole = are_of_from c.args.index.now c.args.tables.now (words_view c.args.words.now) in
    word_goes c.args.index.now c.args.tables.now word_view c.args.words.now whole l.word-index c.word-item.result c.loop-word-test.true c.word-item.is
    c.in_ok-column_in.field-0 c.in_ok-column_in.ensures l.invariant
