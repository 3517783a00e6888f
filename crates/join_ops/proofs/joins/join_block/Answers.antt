use Rattle.std.proofs.Common.{◌≡◌, ◌∙◌, ◌+◌, ◌<◌, ◌≤◌, ◌++◌, true, false, List, ℕ, length, take, get_or, ap, sym, subst, refl, arith, append_assoc, length-append}
use Rattle.std.proofs.lemmas.List.{append-nil}
use Rattle.definitions_blocks.specs.Columns.{max_rows}
use Rattle.scan_ops.specs.Batches.{HoldsWith}
use Rattle.scan_ops.proofs.EmitLaws.{on_err}
use Rattle.definitions_operators.specs.Operators.{places_of}
use Rattle.join_ops.specs.Joins.{lefts_of, lefts_from, rights_from, IsFrontOf}
use Rattle.join_ops.proofs.HandingLaws.{may_take, front_kept, test_front}
use Rattle.join_ops.proofs.JoinLaws.{lefts_from-more, rights_from-more, lefts_from-front, rights_from-front}
use Rattle.join_ops.proofs.joins.join_block.Goals as goal

pub loop-value-init : goal.loop-value-init
loop-value-init g c = record {
  place = omega arith;
  to_left = λ list held. subst (HoldsWith (g.A.Emit.pushed c.args.left.now) c.args.lefts.now) (sym (append-nil list)) held;
  to_right = λ list held. subst (HoldsWith (g.B.Emit.pushed c.args.right.now) c.args.rights.now) (sym (append-nil list)) held;
  left_frame = refl;
  right_frame = refl;
}

-- the pairs of one value more are a front of keys
left_front : (keys : List ℕ) (first i place : ℕ) (values list : List ℕ) → i < length values → place ≡ first + i
    → IsFrontOf ((list ++ lefts_from keys first (take i values)) ++ lefts_of place (places_of keys (get_or values i 0))) (list ++ lefts_from keys first values)
left_front keys first i place values list within at =
    let e : (list ++ lefts_from keys first (take i values)) ++ lefts_of place (places_of keys (get_or values i 0)) ≡ list ++ lefts_from keys first (take (i + 1) values)
    = append_assoc list (lefts_from keys first (take i values)) (lefts_of place (places_of keys (get_or values i 0)))
    ∙ ap (λ n. list ++ (lefts_from keys first (take i values) ++ lefts_of n (places_of keys (get_or values i 0)))) at ∙ ap (λ l. list ++ l) (lefts_from-more keys first i values within) in
    subst (λ l. IsFrontOf l (list ++ lefts_from keys first values)) (sym e) (lefts_from-front keys first (i + 1) values list)

left_next : (keys : List ℕ) (first i place : ℕ) (values list : List ℕ) → i < length values → place ≡ first + i
    → (list ++ lefts_from keys first (take i values)) ++ lefts_of place (places_of keys (get_or values i 0)) ≡ list ++ lefts_from keys first (take (i + 1) values)
left_next keys first i place values list within at =
    append_assoc list (lefts_from keys first (take i values)) (lefts_of place (places_of keys (get_or values i 0)))
    ∙ ap (λ n. list ++ (lefts_from keys first (take i values) ++ lefts_of n (places_of keys (get_or values i 0)))) at ∙ ap (λ l. list ++ l) (lefts_from-more keys first i values within)

right_next : (keys : List ℕ) (i : ℕ) (values list : List ℕ) → i < length values
    → (list ++ rights_from keys (take i values)) ++ places_of keys (get_or values i 0) ≡ list ++ rights_from keys (take (i + 1) values)
right_next keys i values list within =
    append_assoc list (rights_from keys (take i values)) (places_of keys (get_or values i 0)) ∙ ap (λ l. list ++ l) (rights_from-more keys i values within)

right_front : (keys : List ℕ) (i : ℕ) (values list : List ℕ) → i < length values
    → IsFrontOf ((list ++ rights_from keys (take i values)) ++ places_of keys (get_or values i 0)) (list ++ rights_from keys values)
right_front keys i values list within =
    subst (λ l. IsFrontOf l (list ++ rights_from keys values)) (sym (right_next keys i values list within)) (rights_from-front keys (i + 1) values list)

pub join_value-requires : goal.join_value-requires
join_value-requires g c =
    let keys = c.args.keys.now in
    let values = c.args.values.now in
    let first = c.args.first in
    let i = c.loop-value.value-index in
    let a = c.requires.left in
    let b = c.requires.right in
    let few_left : length (a.list ++ lefts_from keys first values) ≤ max_rows = omega (arith, a.few, length-append a.list (lefts_from keys first values)) in
    let few_right : length (b.list ++ rights_from keys values) ≤ max_rows = omega (arith, b.few, length-append b.list (rights_from keys values)) in
    record {
      left = may_take (HoldsWith (g.A.Emit.pushed c.loop-value.left) c.loop-value.lefts) (g.A.Emit.scope (g.A.Emit.frame c.loop-value.left)) (a.list ++ lefts_from keys first (take i values))
          (lefts_of c.loop-value.place (places_of keys (get_or values i 0))) (a.list ++ lefts_from keys first values) (g.met.A.Emit.scope_law (g.A.Emit.frame c.loop-value.left))
          (c.loop-value.invariant.to_left a.list a.held) (left_front keys first i c.loop-value.place values a.list c.loop-value-test.true c.loop-value.invariant.place) few_left
          (subst (λ s. g.A.Emit.scope s (a.list ++ lefts_from keys first values) ≡ true) (sym c.loop-value.invariant.left_frame) a.in_scope);
      right = may_take (HoldsWith (g.B.Emit.pushed c.loop-value.right) c.loop-value.rights) (g.B.Emit.scope (g.B.Emit.frame c.loop-value.right)) (b.list ++ rights_from keys (take i values))
          (places_of keys (get_or values i 0)) (b.list ++ rights_from keys values) (g.met.B.Emit.scope_law (g.B.Emit.frame c.loop-value.right))
          (c.loop-value.invariant.to_right b.list b.held) (right_front keys i values b.list c.loop-value-test.true) few_right
          (subst (λ s. g.B.Emit.scope s (b.list ++ rights_from keys values) ≡ true) (sym c.loop-value.invariant.right_frame) b.in_scope);
    }

pub returns-in_err-join_value-clause-left_err : goal.returns-in_err-join_value-clause-left_err
returns-in_err-join_value-clause-left_err g c =
    let keys = c.args.keys.now in
    let values = c.args.values.now in
    let first = c.args.first in
    let i = c.loop-value.value-index in
    on_err c.from_residual.result (λ list held. front_kept (g.A.Emit.pushed c.join_value.new.left)
    ((list ++ lefts_from keys first (take i values)) ++ lefts_of c.loop-value.place (places_of keys (get_or values i 0))) (list ++ lefts_from keys first values)
    (c.in_err-join_value.ensures.left_err (list ++ lefts_from keys first (take i values)) (c.loop-value.invariant.to_left list held))
    (left_front keys first i c.loop-value.place values list c.loop-value-test.true c.loop-value.invariant.place))

pub returns-in_err-join_value-clause-right_err : goal.returns-in_err-join_value-clause-right_err
returns-in_err-join_value-clause-right_err g c =
    let keys = c.args.keys.now in
    let values = c.args.values.now in
    let i = c.loop-value.value-index in
    on_err c.from_residual.result (λ list held. front_kept (g.B.Emit.pushed c.join_value.new.right)
    ((list ++ rights_from keys (take i values)) ++ places_of keys (get_or values i 0)) (list ++ rights_from keys values)
    (c.in_err-join_value.ensures.right_err (list ++ rights_from keys (take i values)) (c.loop-value.invariant.to_right list held))
    (right_front keys i values list c.loop-value-test.true))

pub loop-value-preserved : goal.loop-value-preserved
loop-value-preserved g c =
    let keys = c.args.keys.now in
    let values = c.args.values.now in
    let first = c.args.first in
    let i = c.loop-value.value-index in
    record {
      place = omega (arith, c.loop-value.invariant.place);
      to_left = λ list held. subst (HoldsWith (g.A.Emit.pushed c.join_value.new.left) c.join_value.new.lefts) (left_next keys first i c.loop-value.place values list c.loop-value-test.true c.loop-value.invariant.place)
          (c.in_ok-join_value.ensures.left_ok (list ++ lefts_from keys first (take i values)) (c.loop-value.invariant.to_left list held));
      to_right = λ list held. subst (HoldsWith (g.B.Emit.pushed c.join_value.new.right) c.join_value.new.rights) (right_next keys i values list c.loop-value-test.true)
          (c.in_ok-join_value.ensures.right_ok (list ++ rights_from keys (take i values)) (c.loop-value.invariant.to_right list held));
      left_frame = c.in_ok-join_value.ensures.left_frame ∙ c.loop-value.invariant.left_frame;
      right_frame = c.in_ok-join_value.ensures.right_frame ∙ c.loop-value.invariant.right_frame;
    }

pub returns-in_err-join_value-clause-sure : goal.returns-in_err-join_value-clause-sure
returns-in_err-join_value-clause-sure g c =
    let keys = c.args.keys.now in
    let values = c.args.values.now in
    let first = c.args.first in
    let i = c.loop-value.value-index in
    let a = g.A.Emit.frame c.loop-value.left in
    let b = g.B.Emit.frame c.loop-value.right in
    let pairs = places_of keys (get_or values i 0) in
    λ lefts rights held_left held_right roomy_left roomy_right. let no : false ≡ true = c.in_err-join_value.ensures.sure
    (lefts ++ lefts_from keys first (take i values)) (rights ++ rights_from keys (take i values)) (c.loop-value.invariant.to_left lefts held_left) (c.loop-value.invariant.to_right rights held_right)
    (test_front (g.A.Emit.room a) ((lefts ++ lefts_from keys first (take i values)) ++ lefts_of c.loop-value.place pairs) (lefts ++ lefts_from keys first values) (g.met.A.Emit.room_law a)
    (left_front keys first i c.loop-value.place values lefts c.loop-value-test.true c.loop-value.invariant.place)
    (subst (λ s. g.A.Emit.room s (lefts ++ lefts_from keys first values) ≡ true) (sym c.loop-value.invariant.left_frame) roomy_left))
    (test_front (g.B.Emit.room b) ((rights ++ rights_from keys (take i values)) ++ pairs) (rights ++ rights_from keys values) (g.met.B.Emit.room_law b)
    (right_front keys i values rights c.loop-value-test.true)
    (subst (λ s. g.B.Emit.room s (rights ++ rights_from keys values) ≡ true) (sym c.loop-value.invariant.right_frame) roomy_right)) in cc
