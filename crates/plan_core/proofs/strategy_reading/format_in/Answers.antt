use Rattle.std.proofs.Common.{refl, codes}
use Rattle.catalog_core.proofs.MemberLemmas.{other}
use Rattle.plan_core.proofs.strategy_reading.format_in.Goals as goal

pub returns-in_default : goal.returns-in_default
returns-in_default c =
    let n = c.in_default in
    let text = c.in_ok-as_str.field-0.now in
    rw (
      ← c.in_ok-as_str.ensures,
      other (codes "plain") text n.not-plain,
      other (codes "static") text n.not-static,
      other (codes "dynamic") text n.not-dynamic,
      other (codes "runs") text n.not-runs,
      other (codes "delta1+dynamic") text n.not-text,
      other (codes "delta16+dynamic") text n.not-text-2,
      other (codes "reference+dynamic") text n.not-text-3,
      other (codes "delta1+runs") text n.not-text-4,
      other (codes "auto") text n.not-auto,
    ) refl
