use Rattle.std.proofs.Common.{List, Option, Some, Ok}
use Rattle.std.proofs.lemmas.Result.{err_from_is_err_and}
use Rattle.definitions_outcomes.specs.Outcomes.{Gives}
use Rattle.catalog_core.specs.Texts.{Text}
use Rattle.database_core.specs.Opening.{TextsOf}
use Rattle.database_core.proofs.StepLemmas.{Opens-stopped}
use Rattle.database_core.proofs.reading.texts_of.Goals as goal

pub returns-in_err-dictionary-in-Text-clause-step : goal.returns-in_err-dictionary-in-Text-clause-step
returns-in_err-dictionary-in-Text-clause-step g c = λ files told.
    let p = err_from_is_err_and c.from_residual.result c.from_residual.ensures.1 in
    let file = c.dictionary_file_name-file.result in
    rw (p.1, p.2, c.in-Text.is, ← c.dictionary_file_name-file.ensures)
    (Opens-stopped (λ (texts : Option (List Text)). texts) (TextsOf files file) (λ texts. Gives (Ok (Some texts))) (λ (texts : List Text). texts) c.in_err-dictionary-in-Text.field-0.0
    (c.in_err-dictionary-in-Text.ensures.step files told))
