use Rattle.std.proofs.Common.{refl, eq-eqb}
use Rattle.std.proofs.lemmas.Bool.{eqb-true}
use Rattle.tail_pack.proofs.LastBits.{none_behind, clear_behind, left_clear}
use Rattle.tail_pack.proofs.checking.ends_clear.Goals as goal

pub returns-then-used-eq0 : goal.returns-then-used-eq0
returns-then-used-eq0 c = ((λ _. none_behind c.args.bits c.args.bytes.now (record { begun = c.requires.begun; inside = c.requires.inside }) c.if-used-eq0.true), (λ _. refl))

pub returns : goal.returns
returns c = (
  (λ clear. clear_behind c.args.bits c.args.bytes.now (record { begun = c.requires.begun; inside = c.requires.inside }) (eqb-true _ _ clear)),
  (λ clear. eq-eqb _ _ (left_clear c.args.bits c.args.bytes.now (record { begun = c.requires.begun; inside = c.requires.inside }) (λ i. (c.type_inv.bytes i).fits) c.if-used-eq0.false clear)),
)
