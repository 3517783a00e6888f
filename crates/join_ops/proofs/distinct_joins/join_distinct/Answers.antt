use Rattle.std.proofs.Common.{◌≡◌, true, ℕ, List, take, OnOk, OnErr, sym, subst, arith}
use Rattle.join_ops.proofs.MeaningLaws.{lefts-are, rights-are, pairs-count}
use Rattle.join_ops.proofs.distinct_joins.join_distinct.Goals as goal

pub join_distinct_blocks-requires-clause-few : goal.join_distinct_blocks-requires-clause-few
join_distinct_blocks-requires-clause-few g c =
    let keys = g.T.FirstLinks.keys c.args.table.now in
    let values = g.S.BlockSource.list c.args.probe.now in
    omega (arith, c.requires.few, pairs-count values keys)

pub join_distinct_blocks-requires-clause-left_scope : goal.join_distinct_blocks-requires-clause-left_scope
join_distinct_blocks-requires-clause-left_scope g c =
    let keys = g.T.FirstLinks.keys c.args.table.now in
    let values = g.S.BlockSource.list c.args.probe.now in
    subst (λ (l : List ℕ). g.A.Emit.scope (g.A.Emit.frame c.args.left.now) l ≡ true) (lefts-are values keys) c.requires.left_scope

pub returns-clause-left_ok : goal.returns-clause-left_ok
returns-clause-left_ok g c =
    let keys = g.T.FirstLinks.keys c.args.table.now in
    let values = g.S.BlockSource.list c.args.probe.now in
    subst (λ (l : List ℕ). OnOk c.join_distinct_blocks.result (g.A.Emit.pushed c.join_distinct_blocks.new.left l)) (sym (lefts-are values keys)) c.join_distinct_blocks.ensures.left_ok

pub returns-clause-left_err : goal.returns-clause-left_err
returns-clause-left_err g c =
    let keys = g.T.FirstLinks.keys c.args.table.now in
    let values = g.S.BlockSource.list c.args.probe.now in
    subst (λ (l : List ℕ). OnErr c.join_distinct_blocks.result ((n : ℕ) × g.A.Emit.pushed c.join_distinct_blocks.new.left (take n l))) (sym (lefts-are values keys)) c.join_distinct_blocks.ensures.left_err

pub join_distinct_blocks-requires-clause-right_scope : goal.join_distinct_blocks-requires-clause-right_scope
join_distinct_blocks-requires-clause-right_scope g c =
    let keys = g.T.FirstLinks.keys c.args.table.now in
    let values = g.S.BlockSource.list c.args.probe.now in
    subst (λ (l : List ℕ). g.B.Emit.scope (g.B.Emit.frame c.args.right.now) l ≡ true) (rights-are values keys) c.requires.right_scope

pub returns-clause-right_ok : goal.returns-clause-right_ok
returns-clause-right_ok g c =
    let keys = g.T.FirstLinks.keys c.args.table.now in
    let values = g.S.BlockSource.list c.args.probe.now in
    subst (λ (l : List ℕ). OnOk c.join_distinct_blocks.result (g.B.Emit.pushed c.join_distinct_blocks.new.right l)) (sym (rights-are values keys)) c.join_distinct_blocks.ensures.right_ok

pub returns-clause-right_err : goal.returns-clause-right_err
returns-clause-right_err g c =
    let keys = g.T.FirstLinks.keys c.args.table.now in
    let values = g.S.BlockSource.list c.args.probe.now in
    subst (λ (l : List ℕ). OnErr c.join_distinct_blocks.result ((n : ℕ) × g.B.Emit.pushed c.join_distinct_blocks.new.right (take n l))) (sym (rights-are values keys)) c.join_distinct_blocks.ensures.right_err

pub returns-clause-sure : goal.returns-clause-sure
returns-clause-sure g c =
    let keys = g.T.FirstLinks.keys c.args.table.now in
    let values = g.S.BlockSource.list c.args.probe.now in
    λ roomy_left roomy_right. c.join_distinct_blocks.ensures.sure
    (subst (λ (l : List ℕ). g.A.Emit.room (g.A.Emit.frame c.args.left.now) l ≡ true) (lefts-are values keys) roomy_left)
    (subst (λ (l : List ℕ). g.B.Emit.room (g.B.Emit.frame c.args.right.now) l ≡ true) (rights-are values keys) roomy_right)
