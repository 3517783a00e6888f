use Rattle.std.proofs.Common.{◌≡◌, ◌∙◌, ◌≤◌, true, false, ℕ, length, take, ap, sym, subst, arith}
use Rattle.std.proofs.Math.Seq.{take-length}
use Rattle.definitions_blocks.specs.Columns.{max_rows}
use Rattle.scan_ops.proofs.EmitLaws.{on_err}
use Rattle.join_ops.specs.Joins.{left_places, right_places, lefts_from, rights_from}
use Rattle.join_ops.proofs.HandingLaws.{front_prefix, front_held}
use Rattle.join_ops.proofs.JoinLaws.{join-lengths}
use Rattle.join_ops.proofs.MeaningLaws.{lefts-are, rights-are, pairs-count}
use Rattle.join_ops.proofs.joins.join_repeating.Goals as goal

pub join_blocks-requires-clause-few : goal.join_blocks-requires-clause-few
join_blocks-requires-clause-few g c =
    let keys = c.args.keys.now in
    let values = g.S.BlockSource.list c.args.probe.now in
    let left_is : left_places values keys ≡ lefts_from keys 0 values = lefts-are values keys in
    let right_is : right_places values keys ≡ rights_from keys values = rights-are values keys in
    let few : length (rights_from keys values) ≤ max_rows = omega (arith, c.requires.few, pairs-count values keys) in
    few

pub join_blocks-requires-clause-left_scope : goal.join_blocks-requires-clause-left_scope
join_blocks-requires-clause-left_scope g c =
    let keys = c.args.keys.now in
    let values = g.S.BlockSource.list c.args.probe.now in
    let left_is : left_places values keys ≡ lefts_from keys 0 values = lefts-are values keys in
    let right_is : right_places values keys ≡ rights_from keys values = rights-are values keys in
    subst (λ l. g.A.Emit.scope (g.A.Emit.frame c.args.left.now) l ≡ true) left_is c.requires.left_scope

pub join_blocks-requires-clause-right_scope : goal.join_blocks-requires-clause-right_scope
join_blocks-requires-clause-right_scope g c =
    let keys = c.args.keys.now in
    let values = g.S.BlockSource.list c.args.probe.now in
    let left_is : left_places values keys ≡ lefts_from keys 0 values = lefts-are values keys in
    let right_is : right_places values keys ≡ rights_from keys values = rights-are values keys in
    subst (λ l. g.B.Emit.scope (g.B.Emit.frame c.args.right.now) l ≡ true) right_is c.requires.right_scope

pub returns-in_err-join_blocks-clause-left_err : goal.returns-in_err-join_blocks-clause-left_err
returns-in_err-join_blocks-clause-left_err g c =
    let keys = c.args.keys.now in
    let values = g.S.BlockSource.list c.args.probe.now in
    let left_is : left_places values keys ≡ lefts_from keys 0 values = lefts-are values keys in
    let right_is : right_places values keys ≡ rights_from keys values = rights-are values keys in
    on_err c.from_residual.result
    (subst (λ l. (n : ℕ) × g.A.Emit.pushed c.join_blocks.new.left (take n l)) (sym left_is) (front_prefix (g.A.Emit.pushed c.join_blocks.new.left) (lefts_from keys 0 values) c.in_err-join_blocks.ensures.left_err))

pub returns-in_err-join_blocks-clause-right_err : goal.returns-in_err-join_blocks-clause-right_err
returns-in_err-join_blocks-clause-right_err g c =
    let keys = c.args.keys.now in
    let values = g.S.BlockSource.list c.args.probe.now in
    let left_is : left_places values keys ≡ lefts_from keys 0 values = lefts-are values keys in
    let right_is : right_places values keys ≡ rights_from keys values = rights-are values keys in
    on_err c.from_residual.result
    (subst (λ l. (n : ℕ) × g.B.Emit.pushed c.join_blocks.new.right (take n l)) (sym right_is) (front_prefix (g.B.Emit.pushed c.join_blocks.new.right) (rights_from keys values) c.in_err-join_blocks.ensures.right_err))

pub returns-in_err-flush-clause-left_err : goal.returns-in_err-flush-clause-left_err
returns-in_err-flush-clause-left_err g c =
    let keys = c.args.keys.now in
    let values = g.S.BlockSource.list c.args.probe.now in
    let left_is : left_places values keys ≡ lefts_from keys 0 values = lefts-are values keys in
    let right_is : right_places values keys ≡ rights_from keys values = rights-are values keys in
    on_err c.from_residual-in_err-flush.result
    (subst (λ l. (n : ℕ) × g.A.Emit.pushed c.flush.new.out (take n l)) (sym left_is) (c.in_err-flush.ensures.err (lefts_from keys 0 values) c.in_ok-join_blocks.ensures.left_ok))

pub returns-in_err-flush-clause-right_err : goal.returns-in_err-flush-clause-right_err
returns-in_err-flush-clause-right_err g c =
    let keys = c.args.keys.now in
    let values = g.S.BlockSource.list c.args.probe.now in
    let left_is : left_places values keys ≡ lefts_from keys 0 values = lefts-are values keys in
    let right_is : right_places values keys ≡ rights_from keys values = rights-are values keys in
    on_err c.from_residual-in_err-flush.result
    (subst (λ l. (n : ℕ) × g.B.Emit.pushed c.join_blocks.new.right (take n l)) (sym right_is) (front_prefix (g.B.Emit.pushed c.join_blocks.new.right) (rights_from keys values) (front_held (g.B.Emit.pushed c.join_blocks.new.right) c.join_blocks.new.rights (rights_from keys values) c.in_ok-join_blocks.ensures.right_ok)))

pub returns-in_err-flush-2-clause-left_err : goal.returns-in_err-flush-2-clause-left_err
returns-in_err-flush-2-clause-left_err g c =
    let keys = c.args.keys.now in
    let values = g.S.BlockSource.list c.args.probe.now in
    let left_is : left_places values keys ≡ lefts_from keys 0 values = lefts-are values keys in
    let right_is : right_places values keys ≡ rights_from keys values = rights-are values keys in
    on_err c.from_residual-in_err-flush-2.result
    (subst (λ l. (n : ℕ) × g.A.Emit.pushed c.flush.new.out (take n l)) (sym left_is) ((length (lefts_from keys 0 values), subst (g.A.Emit.pushed c.flush.new.out) (sym (take-length (lefts_from keys 0 values))) (c.in_ok-flush.ensures.ok (lefts_from keys 0 values) c.in_ok-join_blocks.ensures.left_ok))))

pub returns-in_err-flush-2-clause-right_err : goal.returns-in_err-flush-2-clause-right_err
returns-in_err-flush-2-clause-right_err g c =
    let keys = c.args.keys.now in
    let values = g.S.BlockSource.list c.args.probe.now in
    let left_is : left_places values keys ≡ lefts_from keys 0 values = lefts-are values keys in
    let right_is : right_places values keys ≡ rights_from keys values = rights-are values keys in
    on_err c.from_residual-in_err-flush-2.result
    (subst (λ l. (n : ℕ) × g.B.Emit.pushed c.flush-2.new.out (take n l)) (sym right_is) (c.in_err-flush-2.ensures.err (rights_from keys values) c.in_ok-join_blocks.ensures.right_ok))

pub flush-requires : goal.flush-requires
flush-requires g c =
    let keys = c.args.keys.now in
    let values = g.S.BlockSource.list c.args.probe.now in
    let left_is : left_places values keys ≡ lefts_from keys 0 values = lefts-are values keys in
    let right_is : right_places values keys ≡ rights_from keys values = rights-are values keys in
    let few : length (rights_from keys values) ≤ max_rows = omega (arith, c.requires.few, pairs-count values keys) in (
      lefts_from keys 0 values,
      c.in_ok-join_blocks.ensures.left_ok,
      omega (arith, join-lengths keys 0 values, few),
      ap (λ s. g.A.Emit.scope s (lefts_from keys 0 values)) c.in_ok-join_blocks.ensures.left_frame ∙ subst (λ l. g.A.Emit.scope (g.A.Emit.frame c.args.left.now) l ≡ true) left_is c.requires.left_scope,
    )

pub flush-requires-2 : goal.flush-requires-2
flush-requires-2 g c =
    let keys = c.args.keys.now in
    let values = g.S.BlockSource.list c.args.probe.now in
    let left_is : left_places values keys ≡ lefts_from keys 0 values = lefts-are values keys in
    let right_is : right_places values keys ≡ rights_from keys values = rights-are values keys in
    let few : length (rights_from keys values) ≤ max_rows = omega (arith, c.requires.few, pairs-count values keys) in (
      rights_from keys values,
      c.in_ok-join_blocks.ensures.right_ok,
      few,
      ap (λ s. g.B.Emit.scope s (rights_from keys values)) c.in_ok-join_blocks.ensures.right_frame ∙ subst (λ l. g.B.Emit.scope (g.B.Emit.frame c.args.right.now) l ≡ true) right_is c.requires.right_scope,
    )

pub returns-in_err-join_blocks-clause-sure : goal.returns-in_err-join_blocks-clause-sure
returns-in_err-join_blocks-clause-sure g c = λ roomy_left roomy_right.
    let keys = c.args.keys.now in
    let values = g.S.BlockSource.list c.args.probe.now in
    let left_is : left_places values keys ≡ lefts_from keys 0 values = lefts-are values keys in
    let right_is : right_places values keys ≡ rights_from keys values = rights-are values keys in
    let left_room : g.A.Emit.room (g.A.Emit.frame c.args.left.now) (lefts_from keys 0 values) ≡ true = subst (λ l. g.A.Emit.room (g.A.Emit.frame c.args.left.now) l ≡ true) left_is roomy_left in
    let right_room : g.B.Emit.room (g.B.Emit.frame c.args.right.now) (rights_from keys values) ≡ true = subst (λ l. g.B.Emit.room (g.B.Emit.frame c.args.right.now) l ≡ true) right_is roomy_right in
    let no : false ≡ true = c.in_err-join_blocks.ensures.sure left_room right_room in cc

pub returns-in_err-flush-clause-sure : goal.returns-in_err-flush-clause-sure
returns-in_err-flush-clause-sure g c = λ roomy_left roomy_right.
    let keys = c.args.keys.now in
    let values = g.S.BlockSource.list c.args.probe.now in
    let left_is : left_places values keys ≡ lefts_from keys 0 values = lefts-are values keys in
    let right_is : right_places values keys ≡ rights_from keys values = rights-are values keys in
    let left_room : g.A.Emit.room (g.A.Emit.frame c.args.left.now) (lefts_from keys 0 values) ≡ true = subst (λ l. g.A.Emit.room (g.A.Emit.frame c.args.left.now) l ≡ true) left_is roomy_left in
    let right_room : g.B.Emit.room (g.B.Emit.frame c.args.right.now) (rights_from keys values) ≡ true = subst (λ l. g.B.Emit.room (g.B.Emit.frame c.args.right.now) l ≡ true) right_is roomy_right in
    let no : false ≡ true = c.in_err-flush.ensures.sure (lefts_from keys 0 values) c.in_ok-join_blocks.ensures.left_ok (ap (λ s. g.A.Emit.room s (lefts_from keys 0 values)) c.in_ok-join_blocks.ensures.left_frame ∙ left_room) in cc

pub returns-in_err-flush-2-clause-sure : goal.returns-in_err-flush-2-clause-sure
returns-in_err-flush-2-clause-sure g c = λ roomy_left roomy_right.
    let keys = c.args.keys.now in
    let values = g.S.BlockSource.list c.args.probe.now in
    let left_is : left_places values keys ≡ lefts_from keys 0 values = lefts-are values keys in
    let right_is : right_places values keys ≡ rights_from keys values = rights-are values keys in
    let left_room : g.A.Emit.room (g.A.Emit.frame c.args.left.now) (lefts_from keys 0 values) ≡ true = subst (λ l. g.A.Emit.room (g.A.Emit.frame c.args.left.now) l ≡ true) left_is roomy_left in
    let right_room : g.B.Emit.room (g.B.Emit.frame c.args.right.now) (rights_from keys values) ≡ true = subst (λ l. g.B.Emit.room (g.B.Emit.frame c.args.right.now) l ≡ true) right_is roomy_right in
    let no : false ≡ true = c.in_err-flush-2.ensures.sure (rights_from keys values) c.in_ok-join_blocks.ensures.right_ok (ap (λ s. g.B.Emit.room s (rights_from keys values)) c.in_ok-join_blocks.ensures.right_frame ∙ right_room) in cc

pub returns-clause-left_ok : goal.returns-clause-left_ok
returns-clause-left_ok g c =
    let keys = c.args.keys.now in
    let values = g.S.BlockSource.list c.args.probe.now in
    let left_is : left_places values keys ≡ lefts_from keys 0 values = lefts-are values keys in
    let right_is : right_places values keys ≡ rights_from keys values = rights-are values keys in
    subst (g.A.Emit.pushed c.flush.new.out) (sym left_is) (c.in_ok-flush.ensures.ok (lefts_from keys 0 values) c.in_ok-join_blocks.ensures.left_ok)

pub returns-clause-right_ok : goal.returns-clause-right_ok
returns-clause-right_ok g c =
    let keys = c.args.keys.now in
    let values = g.S.BlockSource.list c.args.probe.now in
    let left_is : left_places values keys ≡ lefts_from keys 0 values = lefts-are values keys in
    let right_is : right_places values keys ≡ rights_from keys values = rights-are values keys in
    subst (g.B.Emit.pushed c.flush-2.new.out) (sym right_is) (c.in_ok-flush-2.ensures.ok (rights_from keys values) c.in_ok-join_blocks.ensures.right_ok)
