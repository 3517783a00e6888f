use Rattle.std.proofs.Common.{refl, codes}
use Rattle.catalog_core.proofs.MemberLemmas.{other}
use Rattle.plan_core.proofs.strategy_reading.form_in.Goals as goal

pub returns-in_default : goal.returns-in_default
returns-in_default c =
    let n = c.in_default in
    let text = c.in_ok-as_str.field-0.now in
    rw (
      ← c.in_ok-as_str.ensures,
      other (codes "plain") text n.not-plain,
      other (codes "fly") text n.not-fly,
      other (codes "special") text n.not-special,
      other (codes "morph") text n.not-morph,
    ) refl
