use Rattle.std.proofs.Common.{◌≡◌, ◌*◌, ◌∙◌, take, ap, subst, arith}
use Rattle.definitions_blocks.specs.Blocks.{block_values, block_at}
use Rattle.size_chooser.specs.Profiles.{IsProfileOf}
use Rattle.morph_core.proofs.BlockLemmas.{block_more, length-block_more}
use Rattle.table_commands.proofs.reformatting.profile_of_column.Goals as goal

pub extend-always_ok-requires : goal.extend-always_ok-requires
extend-always_ok-requires c =
    let values = c.args.column.now.values in
    let n = c.loop-number.number in
    let block : c.as_slice.result.now ≡ block_at values n = c.as_slice.ensures.values ∙ c.block.ensures.values ∙ ap (λ l. block_at l n) c.loop-number.invariant.list in
    (take (n * block_values) values, c.loop-number.invariant.made, omega (arith, length-block_more values c.as_slice.result.now n block, c.count.ensures.few))

pub loop-number-preserved : goal.loop-number-preserved
loop-number-preserved c =
    let values = c.args.column.now.values in
    let n = c.loop-number.number in
    let block : c.as_slice.result.now ≡ block_at values n = c.as_slice.ensures.values ∙ c.block.ensures.values ∙ ap (λ l. block_at l n) c.loop-number.invariant.list in
    record {
      made = subst (IsProfileOf c.extend-always_ok.new.self) (block_more values c.as_slice.result.now n block) (c.extend-always_ok.ensures.taken (take (n * block_values) values) c.loop-number.invariant.made);
      list = c.block.ensures.list ∙ c.loop-number.invariant.list;
    }
