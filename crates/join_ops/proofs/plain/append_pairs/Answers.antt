use Rattle.std.proofs.Common.{◌≡◌, ◌∙◌, ◌-◌, ◌++◌, ◌∷◌, [], ℕ, List, length, ap, sym, arith, append_assoc}
use Rattle.definitions_operators.specs.Operators.{places_of}
use Rattle.join_ops.specs.Joins.{lefts_of, linked_places}
use Rattle.join_ops.proofs.JoinLaws.{places_from-link, places_from-all, linked-open, linked-next}
use Rattle.join_ops.proofs.plain.append_pairs.Goals as goal

pub loop-link-init : goal.loop-link-init
loop-link-init c =
    let keys = c.args.keys.now in
    let is = c.first_link-link.ensures in
    let same : linked_places keys c.args.value c.first_link-link.result ≡ places_of keys c.args.value =
    sym (places_from-link keys c.args.value 0 c.first_link-link.result (omega arith) is) ∙ places_from-all keys c.args.value in
    record {
      here = λ place e. let found = is.here place e in (found.1, found.2);
      left = ap (λ (l : List ℕ). c.args.lefts.now.items ++ lefts_of c.args.place l) same;
      right = ap (λ (l : List ℕ). c.args.rights.now.items ++ l) same;
    }

pub next_link-link-requires : goal.next_link-link-requires
next_link-link-requires c = (c.loop-link.invariant.here (c.loop-link.link - 1) (omega arith)).0

pub loop-link-smaller : goal.loop-link-smaller
loop-link-smaller c =
    let keys = c.args.keys.now in
    let value = c.args.value in
    let link = c.loop-link.link in
    let here = c.loop-link.invariant.here (link - 1) (omega arith) in
    let same = linked-next keys value link c.next_link-link.result (omega arith) here.0 here.1 c.next_link-link.ensures in
    omega (arith, ap length (linked-open keys value link (omega arith)), ap length same)

pub loop-link-preserved : goal.loop-link-preserved
loop-link-preserved c =
    let keys = c.args.keys.now in
    let value = c.args.value in
    let link = c.loop-link.link in
    let place = c.args.place in
    let next = c.next_link-link.result in
    let here = c.loop-link.invariant.here (link - 1) (omega arith) in
    let whole : linked_places keys value link ≡ (link - 1) ∷ linked_places keys value next =
    linked-open keys value link (omega arith)
    ∙ ap (λ (l : List ℕ). (link - 1) ∷ l) (linked-next keys value link next (omega arith) here.0 here.1 c.next_link-link.ensures) in
    record {
      here = λ spot e. let found = c.next_link-link.ensures.here spot e in (found.1, found.2 ∙ here.1);
      left = ap (λ (l : List ℕ). l ++ lefts_of place (linked_places keys value next)) c.in_ok-push.ensures.items
          ∙ append_assoc c.loop-link.lefts.items (place ∷ []) (lefts_of place (linked_places keys value next))
          ∙ ap (λ (l : List ℕ). c.loop-link.lefts.items ++ lefts_of place l) (sym whole)
          ∙ c.loop-link.invariant.left;
      right = ap (λ (l : List ℕ). l ++ linked_places keys value next) (c.in_ok-push-2.ensures.items ∙ ap (λ (k : ℕ). c.loop-link.rights.items ++ k ∷ []) c.from.ensures)
          ∙ append_assoc c.loop-link.rights.items ((link - 1) ∷ []) (linked_places keys value next)
          ∙ ap (λ (l : List ℕ). c.loop-link.rights.items ++ l) (sym whole)
          ∙ c.loop-link.invariant.right;
    }
