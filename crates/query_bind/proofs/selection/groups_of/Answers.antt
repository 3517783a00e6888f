use Rattle.std.proofs.Common.{rules, arith, ◌∙◌}
use Rattle.query_text.specs.Views.{word_view, words_view}
use Rattle.query_bind.specs.Binding.{next_group, groups_of}
use Rattle.query_bind.proofs.AccumulateLemmas.{goes, stops, handed}
use Rattle.query_bind.proofs.SelectionLemmas.{one_more_group}
use Rattle.query_bind.proofs.selection.groups_of.Goals as goal

pub returns-in_err-push_group : goal.returns-in_err-push_group
returns-in_err-push_group c =
    let l = c.loop-word in
    let word = c.word-item.result in
    let given = c.in_err-push_group.field-0.0 in
    handed (λ groups. groups) (groups_of (words_view c.args.words.now)) c.from_residual.result given c.from_residual.ensures.1
    (λ other. stops next_group word_view c.args.words.now _ l.groups l.word-index word (search rules) c.word-item.is given (c.in_err-push_group.ensures.refused other) l.invariant.whole)

pub loop-word-preserved : goal.loop-word-preserved
loop-word-preserved c =
    let l = c.loop-word in
    let word = c.word-item.result in
    record {
      place = omega (arith, l.invariant.place);
      count = one_more_group l.groups (word_view word) c.push_group.new.groups c.in_ok-push_group.ensures.next ∙ omega (arith, l.invariant.count);
      whole = goes next_group word_view c.args.words.now _ l.groups l.word-index word (search rules) c.word-item.is c.push_group.new.groups c.in_ok-push_group.ensures.next l.invariant.whole;
    }
