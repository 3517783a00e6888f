use Rattle.std.proofs.Common.{rules}
use Rattle.std.specs.Ordering.{is_lt}
use Rattle.std.proofs.lemmas.List.Sorted.{ranks_by, answers_always}
use Rattle.catalog_core.specs.declared.columns.ColumnId.{ColumnId}
use Rattle.query_bind.specs.Orders.{column_cmp}
use Rattle.query_bind.proofs.NeedsLemmas.{columns_total}
use Rattle.query_bind.proofs.needs.sort.Goals as goal

pub returns-clause-sorted : goal.returns-clause-sorted
returns-clause-sorted c = c.sort_unstable_by.ensures.sorted (λ id other. is_lt (column_cmp id other)) (ranks_by columns_total (λ (id : ColumnId). id)) (answers_always _ _ _ (λ f a r f' k. search rules))
