use Rattle.std.proofs.Common.{◌∙◌, length, subst}
use Rattle.chain_table.specs.Entries.{Entries, IsNewestBelow}
use Rattle.join_ops.proofs.KeyLaws.{has-found}
use Rattle.join_ops.proofs.chained_keys.ChainedKeys.contains.Goals as goal

pub returns : goal.returns
returns c =
    c.is_some.ensures
    ∙ has-found c.args.self.now.keys c.args.value c.first.result (subst (λ (e : Entries). IsNewestBelow e.keys c.args.value (length e.keys) c.first.result) c.self.view_is c.first.ensures)
