use Rattle.std.proofs.Common.{is_lt, rules}
use Rattle.std.proofs.lemmas.Cmp.{nat_list_cmp_total}
use Rattle.std.proofs.lemmas.List.Sorted.{ranks_by, answers_always}
use Rattle.catalog_core.specs.Texts.{Text}
use Rattle.catalog_core.proofs.TextLemmas.{order}
use Rattle.catalog_core.proofs.dictionary_making.sort.Goals as goal

pub returns-clause-sorted : goal.returns-clause-sorted
returns-clause-sorted c = c.sort_unstable_by.ensures.sorted (λ text other. is_lt (order text other)) (ranks_by nat_list_cmp_total (λ (text : Text). text)) (answers_always _ _ _ (λ f a r f' k. search rules))
