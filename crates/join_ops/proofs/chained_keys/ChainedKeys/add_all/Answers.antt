use Rattle.std.proofs.Common.{◌∙◌, ◌++◌, ap, arith, List, ℕ, sym}
use Rattle.std.proofs.lemmas.List.{append-nil, take_all}
use Rattle.definitions_operators.specs.Operators.{has}
use Rattle.join_ops.proofs.KeyLaws.{same-next}
use Rattle.join_ops.proofs.chained_keys.ChainedKeys.add_all.Goals as goal

pub loop-key-init : goal.loop-key-init
loop-key-init c = record {
  keys = λ key. ap (λ (l : List ℕ). has l key) (sym (append-nil c.args.self.now.keys));
  few = omega arith;
  room = λ i. c.args.self.now.room;
}

pub loop-key-preserved : goal.loop-key-preserved
loop-key-preserved c =
    let before = c.args.self.now.keys in
    let keys = c.args.keys.now in
    let i = c.loop-key.key-index in
    record {
      keys = λ key. c.add.ensures.keys key ∙ same-next before c.loop-key.self.keys keys i c.loop-key-test.true c.loop-key.invariant.keys key;
      few = omega (arith, c.add.ensures.few, c.loop-key.invariant.few);
      room = c.add.ensures.room ∙ c.loop-key.invariant.room;
    }

pub returns-clause-keys : goal.returns-clause-keys
returns-clause-keys c = λ key. c.loop-key.invariant.keys key ∙ ap (λ (l : List ℕ). has (c.args.self.now.keys ++ l) key) (take_all c.loop-key.key-index c.args.keys.now c.loop-key-test.false)
