use Rattle.std.proofs.Common.{◌≡◌, ◌∙◌, ◌-◌, ◌++◌, ◌∷◌, [], true, false, List, ℕ, length, ap, sym, subst, refl, arith, append_assoc, length-append}
use Rattle.std.proofs.lemmas.List.{append-nil, map-append}
use Rattle.definitions_operators.specs.Operators.{places_of}
use Rattle.scan_ops.specs.Batches.{HoldsWith}
use Rattle.scan_ops.proofs.EmitLaws.{on_err}
use Rattle.join_ops.specs.Joins.{lefts_of, places_from, linked_places, IsFrontOf}
use Rattle.join_ops.proofs.HandingLaws.{test_front, front_kept, front_held, front_taken, front_short}
use Rattle.join_ops.proofs.JoinLaws.{places_from-link, places_from-all, linked-open, linked-next, front_one, front_done, lefts-joins}
use Rattle.join_ops.proofs.joins.join_value.Goals as goal

pub loop-link-init : goal.loop-link-init
loop-link-init g c =
    let keys = c.args.keys.now in
    let is = c.first_link-link.ensures in
    record {
      here = λ place e. let found = is.here place e in (found.1, found.2);
      paired = record {
        done = [];
        joins = sym (places_from-link keys c.args.value 0 c.first_link-link.result (omega arith) is) ∙ places_from-all keys c.args.value;
        to_left = λ list held. subst (HoldsWith (g.A.Emit.pushed c.args.left.now) c.args.lefts.now) (sym (append-nil list)) held;
        to_right = λ list held. subst (HoldsWith (g.B.Emit.pushed c.args.right.now) c.args.rights.now) (sym (append-nil list)) held;
      };
      left_frame = refl;
      right_frame = refl;
    }

pub push-requires : goal.push-requires
push-requires g c =
    let keys = c.args.keys.now in
    let value = c.args.value in
    let link = c.loop-link.link in
    let place = c.args.place in
    let whole = places_of keys value in
    let p = c.loop-link.invariant.paired in
    let rest = linked_places keys value link in
    let asked = c.requires.left in
    let front : IsFrontOf (asked.list ++ lefts_of place p.done) (asked.list ++ lefts_of place whole) =
    front_done asked.list (lefts_of place p.done) (lefts_of place rest) (lefts_of place whole) (lefts-joins place p.done rest whole p.joins) in (
      asked.list ++ lefts_of place p.done,
      p.to_left asked.list asked.held,
      omega (arith, asked.few, front_short (asked.list ++ lefts_of place p.done) (asked.list ++ lefts_of place whole) front, length-append asked.list (lefts_of place whole)),
      test_front (g.A.Emit.scope (g.A.Emit.frame c.loop-link.left)) (asked.list ++ lefts_of place p.done) (asked.list ++ lefts_of place whole) (g.met.A.Emit.scope_law (g.A.Emit.frame c.loop-link.left)) front
          (subst (λ s. g.A.Emit.scope s (asked.list ++ lefts_of place whole) ≡ true) (sym c.loop-link.invariant.left_frame) asked.in_scope),
    )

pub push-requires-in-loop-link : goal.push-requires-in-loop-link
push-requires-in-loop-link g c =
    let keys = c.args.keys.now in
    let value = c.args.value in
    let link = c.loop-link.link in
    let place = c.args.place in
    let whole = places_of keys value in
    let p = c.loop-link.invariant.paired in
    let rest = linked_places keys value link in
    let asked = c.requires.right in
    let front : IsFrontOf (asked.list ++ p.done) (asked.list ++ whole) = front_done asked.list p.done rest whole p.joins in (
      asked.list ++ p.done,
      p.to_right asked.list asked.held,
      omega (arith, asked.few, front_short (asked.list ++ p.done) (asked.list ++ whole) front, length-append asked.list whole),
      test_front (g.B.Emit.scope (g.B.Emit.frame c.loop-link.right)) (asked.list ++ p.done) (asked.list ++ whole) (g.met.B.Emit.scope_law (g.B.Emit.frame c.loop-link.right)) front
          (subst (λ s. g.B.Emit.scope s (asked.list ++ whole) ≡ true) (sym c.loop-link.invariant.right_frame) asked.in_scope),
    )

pub returns-in_err-push-clause-left_err : goal.returns-in_err-push-clause-left_err
returns-in_err-push-clause-left_err g c =
    let keys = c.args.keys.now in
    let value = c.args.value in
    let link = c.loop-link.link in
    let place = c.args.place in
    let whole = places_of keys value in
    let p = c.loop-link.invariant.paired in
    let rest = linked_places keys value link in
    on_err c.from_residual.result (λ list held.
    let taken = c.in_err-push.ensures.err (list ++ lefts_of place p.done) (p.to_left list held) in
    front_kept (g.A.Emit.pushed c.push.new.out) (list ++ lefts_of place p.done) (list ++ lefts_of place whole)
    (front_taken (g.A.Emit.pushed c.push.new.out) taken.0 (list ++ lefts_of place p.done) taken.1)
    (front_done list (lefts_of place p.done) (lefts_of place rest) (lefts_of place whole) (lefts-joins place p.done rest whole p.joins)))

pub returns-in_err-push-clause-right_err : goal.returns-in_err-push-clause-right_err
returns-in_err-push-clause-right_err g c =
    let keys = c.args.keys.now in
    let value = c.args.value in
    let link = c.loop-link.link in
    let place = c.args.place in
    let whole = places_of keys value in
    let p = c.loop-link.invariant.paired in
    let rest = linked_places keys value link in
    on_err c.from_residual.result (λ list held.
    front_kept (g.B.Emit.pushed c.loop-link.right) (list ++ p.done) (list ++ whole)
    (front_held (g.B.Emit.pushed c.loop-link.right) c.loop-link.rights (list ++ p.done) (p.to_right list held))
    (front_done list p.done rest whole p.joins))

pub returns-in_err-push-2-clause-left_err : goal.returns-in_err-push-2-clause-left_err
returns-in_err-push-2-clause-left_err g c =
    let keys = c.args.keys.now in
    let value = c.args.value in
    let link = c.loop-link.link in
    let place = c.args.place in
    let whole = places_of keys value in
    let p = c.loop-link.invariant.paired in
    let rest = places_from keys value link in
    let split : p.done ++ ((link - 1) ∷ rest) ≡ whole = ap (λ (l : List ℕ). p.done ++ l) (sym (linked-open keys value link (omega arith))) ∙ p.joins in
    on_err c.from_residual-in_err-push-2.result (λ list held.
    front_kept (g.A.Emit.pushed c.push.new.out) ((list ++ lefts_of place p.done) ++ place ∷ []) (list ++ lefts_of place whole)
    (front_held (g.A.Emit.pushed c.push.new.out) c.push.new.self ((list ++ lefts_of place p.done) ++ place ∷ []) (c.in_ok-push.ensures.ok (list ++ lefts_of place p.done) (p.to_left list held)))
    (front_one list (lefts_of place p.done) (lefts_of place rest) (lefts_of place whole) place (lefts-joins place p.done ((link - 1) ∷ rest) whole split)))

pub returns-in_err-push-2-clause-right_err : goal.returns-in_err-push-2-clause-right_err
returns-in_err-push-2-clause-right_err g c =
    let keys = c.args.keys.now in
    let value = c.args.value in
    let link = c.loop-link.link in
    let place = c.args.place in
    let whole = places_of keys value in
    let p = c.loop-link.invariant.paired in
    let rest = linked_places keys value link in
    on_err c.from_residual-in_err-push-2.result (λ list held.
    let taken = c.in_err-push-2.ensures.err (list ++ p.done) (p.to_right list held) in
    front_kept (g.B.Emit.pushed c.push-in-loop-link.new.out) (list ++ p.done) (list ++ whole)
    (front_taken (g.B.Emit.pushed c.push-in-loop-link.new.out) taken.0 (list ++ p.done) taken.1)
    (front_done list p.done rest whole p.joins))

pub next_link-link-requires : goal.next_link-link-requires
next_link-link-requires g c = (c.loop-link.invariant.here (c.loop-link.link - 1) (omega arith)).0

pub loop-link-smaller : goal.loop-link-smaller
loop-link-smaller g c =
    let keys = c.args.keys.now in
    let value = c.args.value in
    let link = c.loop-link.link in
    let here = c.loop-link.invariant.here (link - 1) (omega arith) in
    let next = c.next_link-link.result in
    let same = linked-next keys value link next (omega arith) here.0 here.1 c.next_link-link.ensures in
    omega (arith, ap length (linked-open keys value link (omega arith)), ap length same)

pub loop-link-preserved : goal.loop-link-preserved
loop-link-preserved g c =
    let keys = c.args.keys.now in
    let value = c.args.value in
    let link = c.loop-link.link in
    let place = c.args.place in
    let whole = places_of keys value in
    let p = c.loop-link.invariant.paired in
    let rest = places_from keys value link in
    let split : p.done ++ ((link - 1) ∷ rest) ≡ whole = ap (λ (l : List ℕ). p.done ++ l) (sym (linked-open keys value link (omega arith))) ∙ p.joins in
    let here = c.loop-link.invariant.here (link - 1) (omega arith) in
    let next = c.next_link-link.result in
    let later = linked_places keys value next in
    let same = linked-next keys value link next (omega arith) here.0 here.1 c.next_link-link.ensures in
    record {
      here = λ spot e. let found = c.next_link-link.ensures.here spot e in (found.1, found.2 ∙ here.1);
      paired = record {
        done = p.done ++ (link - 1) ∷ [];
        joins = append_assoc p.done ((link - 1) ∷ []) later ∙ ap (λ (l : List ℕ). p.done ++ ((link - 1) ∷ l)) (sym same) ∙ split;
        to_left = λ list held. subst (HoldsWith (g.A.Emit.pushed c.push.new.out) c.push.new.self)
            (append_assoc list (lefts_of place p.done) (place ∷ []) ∙ ap (λ (l : List ℕ). list ++ l) (sym (map-append (λ (_ : ℕ). place) p.done ((link - 1) ∷ []))))
            (c.in_ok-push.ensures.ok (list ++ lefts_of place p.done) (p.to_left list held));
        to_right = λ list held. subst (HoldsWith (g.B.Emit.pushed c.push-in-loop-link.new.out) c.push-in-loop-link.new.self)
            (ap (λ (t : ℕ). (list ++ p.done) ++ t ∷ []) c.from.ensures ∙ append_assoc list p.done ((link - 1) ∷ []))
            (c.in_ok-push-2.ensures.ok (list ++ p.done) (p.to_right list held));
      };
      left_frame = c.in_ok-push.ensures.frame ∙ c.loop-link.invariant.left_frame;
      right_frame = c.in_ok-push-2.ensures.frame ∙ c.loop-link.invariant.right_frame;
    }

pub returns-in_err-push-clause-sure : goal.returns-in_err-push-clause-sure
returns-in_err-push-clause-sure g c = λ lefts rights held_left held_right roomy_left roomy_right.
    let keys = c.args.keys.now in
    let value = c.args.value in
    let link = c.loop-link.link in
    let place = c.args.place in
    let whole = places_of keys value in
    let p = c.loop-link.invariant.paired in
    let rest = linked_places keys value link in
    let no : false ≡ true = c.in_err-push.ensures.sure (lefts ++ lefts_of place p.done) (p.to_left lefts held_left)
    (test_front (g.A.Emit.room (g.A.Emit.frame c.loop-link.left)) (lefts ++ lefts_of place p.done) (lefts ++ lefts_of place whole) (g.met.A.Emit.room_law (g.A.Emit.frame c.loop-link.left))
    (front_done lefts (lefts_of place p.done) (lefts_of place rest) (lefts_of place whole) (lefts-joins place p.done rest whole p.joins))
    (subst (λ s. g.A.Emit.room s (lefts ++ lefts_of place whole) ≡ true) (sym c.loop-link.invariant.left_frame) roomy_left)) in cc

pub returns-in_err-push-2-clause-sure : goal.returns-in_err-push-2-clause-sure
returns-in_err-push-2-clause-sure g c = λ lefts rights held_left held_right roomy_left roomy_right.
    let keys = c.args.keys.now in
    let value = c.args.value in
    let link = c.loop-link.link in
    let place = c.args.place in
    let whole = places_of keys value in
    let p = c.loop-link.invariant.paired in
    let rest = linked_places keys value link in
    let no : false ≡ true = c.in_err-push-2.ensures.sure (rights ++ p.done) (p.to_right rights held_right)
    (test_front (g.B.Emit.room (g.B.Emit.frame c.loop-link.right)) (rights ++ p.done) (rights ++ whole) (g.met.B.Emit.room_law (g.B.Emit.frame c.loop-link.right))
    (front_done rights p.done rest whole p.joins)
    (subst (λ s. g.B.Emit.room s (rights ++ whole) ≡ true) (sym c.loop-link.invariant.right_frame) roomy_right)) in cc
