-- A text has one answer at most.
use Rattle.std.proofs.Common.{◌∙◌, inl, inr, sym, ap}
use Rattle.std.proofs.lemmas.Option.{same_Some}
use Rattle.catalog_core.specs.Schemas.{schema_in, OneSchema}

pub one_schema : OneSchema
one_schema bytes answer other one another =
    elim one [
      | inl this ↦ elim another [
        | inl that ↦
            let same = same_Some this.0 that.0 (sym this.1.table ∙ that.1.table) in
            this.2 ∙ ap schema_in same ∙ sym that.2
        | inr none ↦ absurd (none.0 this.0 this.1)
      ]
      | inr none ↦ elim another [
        | inl that ↦ absurd (none.0 that.0 that.1)
        | inr neither ↦ none.1 ∙ sym neither.1
      ]
    ]
