use Rattle.std.proofs.Common.{List, ℕ}
use Rattle.std.proofs.lemmas.Result.{err_from_is_err_and}
use Rattle.definitions_outcomes.specs.Outcomes.{Gives}
use Rattle.catalog_core.specs.Texts.{Text}
use Rattle.database_core.specs.Opening.{data_file}
use Rattle.database_core.specs.Steps.{TextsIn}
use Rattle.database_core.proofs.StepLemmas.{Opens-stopped}
use Rattle.database_core.proofs.reading.dictionary_of.Goals as goal

pub returns-in_err-bytes-clause-step : goal.returns-in_err-bytes-clause-step
returns-in_err-bytes-clause-step g c = λ files told.
    let p = err_from_is_err_and c.from_residual.result c.from_residual.ensures.1 in
    let file = c.args.file.now in
    rw (p.1, p.2) (Opens-stopped (λ (texts : List Text). texts) (Gives (data_file files file)) (TextsIn file) (λ (bytes : List ℕ). bytes) c.in_err-bytes.field-0.0 (c.in_err-bytes.ensures.step files told))
