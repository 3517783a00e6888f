use Rattle.std.proofs.Common.{◌≡◌, List, ℕ, Err, sym, ap, subst, ◌∙◌, arith}
use Rattle.std.specs.Prelude.{codes, ok_or}
use Rattle.stream_core.specs.Files.{Files}
use Rattle.stream_core.specs.Names.{now_file_name}
use Rattle.stream_core.specs.Stores.{Exceeds, IsLoaded}
use Rattle.stream_core.specs.declared.storing.LoadError.TheVariants as load
use Rattle.database_core.specs.NowFiles.{now_in}
use Rattle.definitions_outcomes.specs.Computed.{bind}
use Rattle.table_commands.specs.Refusals.{bad_file}
use Rattle.engine_tool.specs.Replies.{now_of}
use Rattle.database_core.proofs.NowLemmas.{other_length}
use Rattle.engine_tool.proofs.loading.now_of.Goals as goal

-- a file that is too long is no now file
too_long : (files : Files) (table : List ℕ) → Exceeds files (now_file_name table) 13 → now_of files table ≡ Err (bad_file (now_file_name table) (codes "bad now"))
too_long files table exceeds =
    let name = now_file_name table in
    ap (λ found. bind (ok_or found (bad_file name (codes "no file"))) (λ bytes. ok_or (now_in bytes) (bad_file name (codes "bad now")))) exceeds.there
    ∙ ap (λ now. ok_or now (bad_file name (codes "bad now"))) (sym (other_length exceeds.bytes (λ e. omega (arith, exceeds.long, e))))

pub returns-in-Err-TooLong-clause-step : goal.returns-in-Err-TooLong-clause-step
returns-in-Err-TooLong-clause-step g c = λ files told.
    let name : c.as_str.result.now ≡ now_file_name c.args.table.now = c.as_str.ensures.text ∙ c.now_file_name-file.ensures in
    let exceeds : Exceeds files (now_file_name c.args.table.now) 13 =
    subst (λ n. Exceeds files n 13) name (subst (λ held. IsLoaded held c.as_str.result.now 13 (Err load.TooLong)) told (rw c.in-Err-TooLong.field-0-is at c.in-Err-TooLong.ensures.loaded)) in
    rw (c.refused-in-Err-TooLong.ensures, c.now_file_name-file.ensures) (too_long files c.args.table.now exceeds)
