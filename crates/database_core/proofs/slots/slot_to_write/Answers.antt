use Rattle.std.proofs.Common.{◌≡◌, Err, sym, subst, ◌∙◌}
use Rattle.stream_core.specs.Names.{now_file_name}
use Rattle.stream_core.specs.Stores.{Exceeds, IsLoaded}
use Rattle.stream_core.specs.declared.storing.LoadError.TheVariants as load
use Rattle.database_core.proofs.SavingLemmas.{too_long_to_say}
use Rattle.database_core.proofs.slots.slot_to_write.Goals as goal

pub returns-in-Err-TooLong-clause-slot : goal.returns-in-Err-TooLong-clause-slot
returns-in-Err-TooLong-clause-slot g c = λ files told.
    let name : c.as_str.result.now ≡ now_file_name c.args.table.now = c.as_str.ensures.text ∙ c.now_file_name-file.ensures in
    let exceeds : Exceeds files (now_file_name c.args.table.now) 13 =
    subst (λ n. Exceeds files n 13) name (subst (λ held. IsLoaded held c.as_str.result.now 13 (Err load.TooLong)) told (rw c.in-Err-TooLong.field-0-is at c.in-Err-TooLong.ensures.loaded)) in
    c.other_slot-in-Err-TooLong.ensures ∙ sym (too_long_to_say files c.args.table.now exceeds)
