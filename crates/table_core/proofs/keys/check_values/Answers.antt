use Rattle.std.proofs.Common.{sym, subst}
use Rattle.std.specs.List.Sorted.{IsPermutation}
use Rattle.std.proofs.lemmas.Bool.{both_ways}
use Rattle.table_core.specs.Keys.{HasEqualNeighbours}
use Rattle.table_core.proofs.KeyLemmas.{distinct_of_neighbours, differ_if_sorted, repeat_if_sorted}
use Rattle.table_core.proofs.keys.check_values.Goals as goal

pub returns-then-has_equal_neighbours-clause-repeated : goal.returns-then-has_equal_neighbours-clause-repeated
returns-then-has_equal_neighbours-clause-repeated c =
    let sorted = c.sort_unstable.new.self.items in
    let moved = subst (λ before. IsPermutation before sorted) c.in_ok-values.ensures c.sort_unstable.ensures.permutation in
    λ is. repeat_if_sorted c.args.key.now.values sorted moved
    (subst HasEqualNeighbours c.as_slice.ensures.value (c.has_equal_neighbours.ensures.0 c.if-has_equal_neighbours.true))

pub returns-clause-ok : goal.returns-clause-ok
returns-clause-ok c =
    let sorted = c.sort_unstable.new.self.items in
    let moved = subst (λ before. IsPermutation before sorted) c.in_ok-values.ensures c.sort_unstable.ensures.permutation in
    differ_if_sorted c.args.key.now.values sorted moved (distinct_of_neighbours sorted c.sort_unstable.ensures.sorted (λ equal.
    both_ways c.has_equal_neighbours.result c.if-has_equal_neighbours.false (c.has_equal_neighbours.ensures.1 (subst HasEqualNeighbours (sym c.as_slice.ensures.value) equal))))
