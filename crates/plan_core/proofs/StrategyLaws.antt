-- A text has one outcome at most for each plan.
use Rattle.std.proofs.Common.{◌∙◌, inl, inr, sym, ap}
use Rattle.std.proofs.lemmas.Option.{same_Some}
use Rattle.plan_core.specs.Strategies.{strategy_in, OneStrategy}

pub one_strategy : OneStrategy
one_strategy bytes plan outcome other one another =
    elim one [
      | inl this ↦ elim another [
        | inl that ↦
            let same = same_Some this.0 that.0 (sym this.1.table ∙ that.1.table) in
            this.2 ∙ ap (strategy_in plan) same ∙ sym that.2
        | inr none ↦ absurd (none.0 this.0 this.1)
      ]
      | inr none ↦ elim another [
        | inl that ↦ absurd (none.0 that.0 that.1)
        | inr neither ↦ none.1 ∙ sym neither.1
      ]
    ]
