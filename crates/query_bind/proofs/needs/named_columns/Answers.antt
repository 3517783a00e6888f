use Rattle.query_bind.proofs.NeedsLemmas.{named_are}
use Rattle.query_bind.proofs.needs.named_columns.Goals as goal

pub returns : goal.returns
returns c =
    rw (
      c.in_ok-push_sums.ensures,
      c.in_ok-extend_from_slice.ensures.items,
      c.in_ok-push_tested.ensures,
      c.in_ok-push_joins.ensures,
      c.new-columns.ensures.items,
      c.as_slice.ensures,
      c.as_slice-2.ensures,
      c.as_slice-3.ensures,
      c.as_slice-4.ensures,
    ) (named_are c.args.bound.now)
