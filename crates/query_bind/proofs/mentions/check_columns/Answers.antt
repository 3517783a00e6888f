use Rattle.std.proofs.Common.{refl}
use Rattle.query_text.specs.Views.{query_view}
use Rattle.query_bind.specs.Binding.{mentioned, are_of_from}
use Rattle.query_bind.proofs.AccumulateLemmas.{handed_on}
use Rattle.query_bind.proofs.MentionLemmas.{mentions_split}
use Rattle.query_bind.proofs.mentions.check_columns.Goals as goal

pub returns-in_err-check_items : goal.returns-in_err-check_items
returns-in_err-check_items c =
    let given = c.in_err-check_items.field-0.0 in
    handed_on (are_of_from c.args.index.now c.args.tables.now (mentioned (query_view c.args.query.now))) c.from_residual.result given c.from_residual.ensures.1
    (λ other. rw (mentions_split c.args.index.now c.args.tables.now (query_view c.args.query.now), ← c.as_slice.ensures, c.in_err-check_items.ensures other) refl)

pub returns-in_err-check_conditions : goal.returns-in_err-check_conditions
returns-in_err-check_conditions c =
    let given = c.in_err-check_conditions.field-0.0 in
    handed_on (are_of_from c.args.index.now c.args.tables.now (mentioned (query_view c.args.query.now))) c.from_residual-in_err-check_conditions.result given
    c.from_residual-in_err-check_conditions.ensures.1
    (λ other. rw (
      mentions_split c.args.index.now c.args.tables.now (query_view c.args.query.now),
      ← c.as_slice.ensures,
      c.in_ok-check_items.ensures,
      ← c.as_slice-2.ensures,
      c.in_err-check_conditions.ensures other,
    ) refl)

pub returns : goal.returns
returns c =
    rw (
      mentions_split c.args.index.now c.args.tables.now (query_view c.args.query.now),
      ← c.as_slice.ensures,
      c.in_ok-check_items.ensures,
      ← c.as_slice-2.ensures,
      c.in_ok-check_conditions.ensures,
      ← c.as_slice-3.ensures,
    ) c.check_words.ensures
