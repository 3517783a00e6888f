use Rattle.std.proofs.Common.{arith, ◌≡◌, true, false, length, map, inl, inr, refl}
use Rattle.std.proofs.lemmas.Bool.{le-leb, lt-leb}
use Rattle.std.proofs.lemmas.List.{length-map}
use Rattle.toml.specs.View.{view}
use Rattle.catalog_core.specs.Schemas.{is_count}
use Rattle.catalog_core.proofs.MemberLemmas.{list_of-view, and_false}
use Rattle.catalog_core.proofs.members.items_of.Goals as goal

pub returns-then-items-most-clause-items : goal.returns-then-items-most-clause-items
returns-then-items-most-clause-items c =
    let items = c.in_ok-as_array.field-0.now.items in
    let same = c.as_slice-items.ensures.value in
    let few : is_count c.args.most (map view items) ≡ true =
    rw (length-map items view, ← same, le-leb 1 (length c.as_slice-items.result.now) (omega arith), le-leb (length c.as_slice-items.result.now) c.args.most (omega arith)) refl in
    rw (← c.in_ok-held.ensures, ← c.in_ok-as_array.ensures, list_of-view items, few, ← same) refl

pub returns-else-items-ge1 : goal.returns-else-items-ge1
returns-else-items-ge1 c =
    let items = c.in_ok-as_array.field-0.now.items in
    let same = c.as_slice-items.ensures.value in
    let many : is_count c.args.most (map view items) ≡ false =
    elim c.else-items-ge1.either [
      | inl over ↦ rw (length-map items view, ← same, lt-leb (length c.as_slice-items.result.now) c.args.most (omega arith)) (and_false _)
      | inr none ↦ rw (length-map items view, ← same, lt-leb 1 (length c.as_slice-items.result.now) (omega arith)) refl
    ] in
    rw (← c.in_ok-held.ensures, ← c.in_ok-as_array.ensures, list_of-view items, many) (record { items = refl; few = tt })
