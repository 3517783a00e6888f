use Rattle.std.proofs.Common.{◌∙◌, length, refl, inl, inr, arith}
use Rattle.std.proofs.lemmas.Bool.{cases_lt}
use Rattle.std.proofs.lemmas.List.{length-set, get_or_past}
use Rattle.chain_table.proofs.ChainLaws.{cleared-next}
use Rattle.chain_table.proofs.chain.clear.Goals as goal

pub loop-index-init : goal.loop-index-init
loop-index-init c = record {
  size = refl;
  none = λ bucket below. absurd (omega arith);
}

pub loop-index-preserved : goal.loop-index-preserved
loop-index-preserved c = record {
  size = length-set c.loop-index.links c.loop-index.index 0 ∙ c.loop-index.invariant.size;
  none = cleared-next c.loop-index.links c.loop-index.index c.loop-index.invariant.none;
}

pub returns-clause-none : goal.returns-clause-none
returns-clause-none c bucket =
    elim (cases_lt bucket (length c.loop-index.links)) [
      | inl within ↦ c.loop-index.invariant.none bucket (omega (arith, c.loop-index.invariant.size))
      | inr past ↦ get_or_past c.loop-index.links bucket 0 (omega arith)
    ]
