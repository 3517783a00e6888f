use Rattle.std.proofs.Common.{List, ℕ}
use Rattle.std.proofs.lemmas.Result.{err_from_is_err_and}
use Rattle.definitions_outcomes.specs.Outcomes.{Outcomes, Gives, Then}
use Rattle.column_core.specs.Columns.{Shape}
use Rattle.database_core.specs.Opening.{data_file, for_rows}
use Rattle.database_core.specs.Steps.{HeldIn}
use Rattle.database_core.specs.declared.errors.OpenError.{OpenError}
use Rattle.database_core.proofs.StepLemmas.{Opens-stopped, Opens-went}
use Rattle.database_core.proofs.reading.column_of.Goals as goal

-- the steps after the file is loaded
abbrev after_file : List ℕ → ℕ → List ℕ → Outcomes Shape OpenError
after_file file rows bytes = Then (HeldIn file bytes) (λ held. Gives (for_rows file rows held))

pub returns-in_err-bytes-clause-step : goal.returns-in_err-bytes-clause-step
returns-in_err-bytes-clause-step g c = λ files told.
    let p = err_from_is_err_and c.from_residual.result c.from_residual.ensures.1 in
    let file = c.args.file.now in
    rw (p.1, p.2)
    (Opens-stopped (λ (held : Shape). held) (Gives (data_file files file)) (after_file file c.args.rows) (λ (bytes : List ℕ). bytes) c.in_err-bytes.field-0.0 (c.in_err-bytes.ensures.step files told))

pub returns-clause-step : goal.returns-clause-step
returns-clause-step g c = λ files told.
    let file = c.args.file.now in
    let rows = c.args.rows in
    let bytes = c.in_ok-bytes.bytes in
    Opens-went (λ (held : Shape). held) (Gives (data_file files file)) (after_file file rows) bytes c.for_rows.result (c.in_ok-bytes.ensures.step files told)
    (Opens-went (λ (held : Shape). held) (HeldIn file bytes) (λ held. Gives (for_rows file rows held)) c.in_ok-column.column c.for_rows.result c.in_ok-column.ensures.step c.for_rows.ensures.step)
