use Rattle.std.proofs.Common.{◌≡◌, Err, sym, subst, ◌∙◌}
use Rattle.stream_core.specs.Names.{now_file_name}
use Rattle.stream_core.specs.Stores.{Exceeds, IsLoaded}
use Rattle.stream_core.specs.declared.storing.LoadError.TheVariants as load
use Rattle.database_core.proofs.StepLemmas.{too_long}
use Rattle.database_core.proofs.loading.now_of.Goals as goal

pub returns-in-Err-TooLong-clause-step : goal.returns-in-Err-TooLong-clause-step
returns-in-Err-TooLong-clause-step g c = λ files told.
    let name : c.as_str.result.now ≡ now_file_name c.args.name.now = c.as_str.ensures.text ∙ c.now_file_name-file.ensures in
    let exceeds : Exceeds files (now_file_name c.args.name.now) 13 =
    subst (λ n. Exceeds files n 13) name (subst (λ held. IsLoaded held c.as_str.result.now 13 (Err load.TooLong)) told (rw c.in-Err-TooLong.field-0-is at c.in-Err-TooLong.ensures.loaded)) in
    sym (too_long files c.args.table c.args.name.now exceeds)
