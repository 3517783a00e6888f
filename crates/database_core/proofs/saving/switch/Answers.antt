use Rattle.std.proofs.Common.{ℕ, List, [], ◌∷◌, ◌∙◌, subst}
use Rattle.database_core.specs.SavingSteps.{Between, ChangesOnly}
use Rattle.database_core.proofs.SavingLemmas.{file_changes}
use Rattle.database_core.proofs.saving.switch.Goals as goal

pub returns-in-Ok-clause-changes : goal.returns-in-Ok-clause-changes
returns-in-Ok-clause-changes g c =
    let before = g.S.Store.files c.args.store.now in
    let after = g.S.Store.files c.save.new.self in
    subst (λ (name : List ℕ). Between (ChangesOnly (name ∷ [])) before after) (c.as_str.ensures.text ∙ c.now_file_name-file.ensures)
    (file_changes before after c.as_str.result.now c.as_slice.result.now c.save.result c.save.ensures.saved)

pub returns-in-Err-Failed-clause-changes : goal.returns-in-Err-Failed-clause-changes
returns-in-Err-Failed-clause-changes g c =
    let before = g.S.Store.files c.args.store.now in
    let after = g.S.Store.files c.save.new.self in
    subst (λ (name : List ℕ). Between (ChangesOnly (name ∷ [])) before after) (c.as_str.ensures.text ∙ c.now_file_name-file.ensures)
    (file_changes before after c.as_str.result.now c.as_slice.result.now c.save.result c.save.ensures.saved)
