use Rattle.std.proofs.Common.{◌≡◌, ◌*◌, ◌+◌, ◌++◌, ℕ, List, length, take, sym, ap, ◌∙◌, subst, arith}
use Rattle.std.proofs.lemmas.Bool.{false≢true}
use Rattle.definitions_blocks.specs.Blocks.{block_values, block_at}
use Rattle.morph_core.proofs.BlockLemmas.{block_more, length-block_more, holds_of_front, front_is, on_err}
use Rattle.morph_core.proofs.morphs.emit_blocks.Goals as goal

pub extend-requires : goal.extend-requires
extend-requires g c =
    let values = g.S.BlockSource.list c.args.source.now in
    let n = c.loop-number.number in
    let block : c.as_slice.result.now ≡ block_at values n = c.as_slice.ensures.values ∙ c.block.ensures.values ∙ ap (λ l. block_at l n) c.loop-number.invariant.list in (
      take (n * block_values) values,
      c.loop-number.invariant.emitted,
      omega (arith, length-block_more values c.as_slice.result.now n block, c.count.ensures.few),
      holds_of_front g.O.Emit.scope g.met.O.Emit.scope_law (g.O.Emit.frame c.loop-number.out) (g.O.Emit.frame c.args.out.now) c.loop-number.invariant.frame values c.as_slice.result.now n block c.requires.in_scope,
    )

pub returns-in_err-extend-clause-err : goal.returns-in_err-extend-clause-err
returns-in_err-extend-clause-err g c =
    let values = g.S.BlockSource.list c.args.source.now in
    let n = c.loop-number.number in
    let block : c.as_slice.result.now ≡ block_at values n = c.as_slice.ensures.values ∙ c.block.ensures.values ∙ ap (λ l. block_at l n) c.loop-number.invariant.list in
    let some = c.in_err-extend.ensures.err in
    let front = take (n * block_values) values ++ take some.0 c.as_slice.result.now in
    on_err c.from_residual.result (length front, subst (g.O.Emit.pushed c.extend.new.self) (front_is values c.as_slice.result.now n some.0 block) (some.1 (take (n * block_values) values) c.loop-number.invariant.emitted))

pub returns-in_err-extend-clause-sure : goal.returns-in_err-extend-clause-sure
returns-in_err-extend-clause-sure g c = λ holds.
    let values = g.S.BlockSource.list c.args.source.now in
    let n = c.loop-number.number in
    let block : c.as_slice.result.now ≡ block_at values n = c.as_slice.ensures.values ∙ c.block.ensures.values ∙ ap (λ l. block_at l n) c.loop-number.invariant.list in
    absurd (false≢true (c.in_err-extend.ensures.sure (take (n * block_values) values) c.loop-number.invariant.emitted
    (holds_of_front g.O.Emit.room g.met.O.Emit.room_law (g.O.Emit.frame c.loop-number.out) (g.O.Emit.frame c.args.out.now) c.loop-number.invariant.frame values c.as_slice.result.now n block holds)))

pub loop-number-preserved : goal.loop-number-preserved
loop-number-preserved g c =
    let values = g.S.BlockSource.list c.args.source.now in
    let n = c.loop-number.number in
    let block : c.as_slice.result.now ≡ block_at values n = c.as_slice.ensures.values ∙ c.block.ensures.values ∙ ap (λ l. block_at l n) c.loop-number.invariant.list in
    record {
      emitted = subst (g.O.Emit.pushed c.extend.new.self) (block_more values c.as_slice.result.now n block) (c.in_ok-extend.ensures.ok (take (n * block_values) values) c.loop-number.invariant.emitted);
      frame = c.extend.ensures.frame ∙ c.loop-number.invariant.frame;
      list = c.block.ensures.list ∙ c.loop-number.invariant.list;
    }
