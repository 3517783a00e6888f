use Rattle.std.proofs.Common.{◌≡◌, ◌∙◌, ℕ, ◌+◌, ◌*◌, ◌++◌, ap, arith, length, take, List}
use Rattle.std.proofs.lemmas.List.{take_all, length-take}
use Rattle.definitions_blocks.specs.Blocks.{block_values, block_at}
use Rattle.definitions_operators.specs.Operators.{has}
use Rattle.scan_ops.proofs.EmitLaws.{taken-block}
use Rattle.scan_ops.proofs.ProjectLaws.{take-next}
use Rattle.join_ops.proofs.KeyLaws.{same-append}
use Rattle.join_ops.proofs.key_sets.chain_of.Goals as goal

pub add_all-requires : goal.add_all-requires
add_all-requires g c =
    let keys = g.S.BlockSource.list c.args.keys.now in
    let number = c.loop-number.number in
    let is : c.as_slice.result.now ≡ block_at keys number = c.as_slice.ensures.values ∙ c.block.ensures.values ∙ ap (λ (l : List ℕ). block_at l number) c.loop-number.invariant.kept in
    omega (arith, c.loop-number.invariant.few, c.loop-number.invariant.room, ap length is, taken-block number keys, length-take ((number + 1) * block_values) keys)

pub loop-number-preserved : goal.loop-number-preserved
loop-number-preserved g c =
    let keys = g.S.BlockSource.list c.args.keys.now in
    let number = c.loop-number.number in
    let is : c.as_slice.result.now ≡ block_at keys number = c.as_slice.ensures.values ∙ c.block.ensures.values ∙ ap (λ (l : List ℕ). block_at l number) c.loop-number.invariant.kept in
    let joined : take (number * block_values) keys ++ c.as_slice.result.now ≡ take ((number + 1) * block_values) keys = ap (λ (l : List ℕ). take (number * block_values) keys ++ l) is ∙ take-next number keys in
    record {
      kept = c.block.ensures.list ∙ c.loop-number.invariant.kept;
      added = λ key. ap (λ s. has s.keys key) c.balance_after.ensures ∙ c.add_all.ensures.keys key ∙ same-append c.loop-number.set.keys (take (number * block_values) keys) c.as_slice.result.now c.loop-number.invariant.added key
          ∙ ap (λ (l : List ℕ). has l key) joined;
      few = omega (arith, ap (λ s. length s.keys) c.balance_after.ensures, c.add_all.ensures.few, c.loop-number.invariant.few, ap length is, taken-block number keys);
      room = ap (λ s. s.room) c.balance_after.ensures ∙ c.add_all.ensures.room ∙ c.loop-number.invariant.room;
      later = omega (arith, c.loop-number.invariant.later, c.block.ensures.later);
      steps = omega (arith, c.loop-number.invariant.steps, c.block.ensures.steps);
    }

pub returns-clause-keys : goal.returns-clause-keys
returns-clause-keys g c = record {
  same = λ key. ap (λ s. has s.keys key) c.balance_after-2.ensures ∙ c.loop-number.invariant.added key
      ∙ ap (λ (l : List ℕ). has l key) (take_all (c.loop-number.number * block_values) (g.S.BlockSource.list c.args.keys.now) (omega (arith, c.loop-number-test.false, c.div_ceil-number-end.ensures, c.count-count.ensures.count)));
  distinct = c.tell.ensures;
}
