use Rattle.std.proofs.Common.{refl, sym, ◌∙◌}
use Rattle.join_ops.proofs.KeyLaws.{same-there}
use Rattle.join_ops.proofs.chained_keys.ChainedKeys.add.Goals as goal

pub returns-then-contains-clause-keys : goal.returns-then-contains-clause-keys
returns-then-contains-clause-keys c = same-there c.args.self.now.keys c.args.self.now.keys c.args.key (λ key. refl) (sym c.contains.ensures ∙ c.if-contains.true)
