use Rattle.definitions_blocks.specs.Formats as columns
use Rattle.column_core.proofs.BlockLemmas.{sized}
use Rattle.column_core.proofs.blocks.len_of_encoding.Goals as goal

pub encoded_len-requires : goal.encoded_len-requires
encoded_len-requires c = sized columns.plain c.args.static_width c.args.full.now (rw c.in-Plain.is at c.requires)

pub encoded_len-requires-in-Runs : goal.encoded_len-requires-in-Runs
encoded_len-requires-in-Runs c = sized columns.runs c.args.static_width c.args.full.now (rw c.in-Runs.is at c.requires)

pub encoded_len-requires-in-Delta1Dynamic : goal.encoded_len-requires-in-Delta1Dynamic
encoded_len-requires-in-Delta1Dynamic c = sized columns.delta1_dynamic c.args.static_width c.args.full.now (rw c.in-Delta1Dynamic.is at c.requires)

pub encoded_len-requires-in-Delta16Dynamic : goal.encoded_len-requires-in-Delta16Dynamic
encoded_len-requires-in-Delta16Dynamic c = sized columns.delta16_dynamic c.args.static_width c.args.full.now (rw c.in-Delta16Dynamic.is at c.requires)

pub encoded_len-requires-in-ReferenceDynamic : goal.encoded_len-requires-in-ReferenceDynamic
encoded_len-requires-in-ReferenceDynamic c = sized columns.reference_dynamic c.args.static_width c.args.full.now (rw c.in-ReferenceDynamic.is at c.requires)

pub encoded_len-requires-in-Delta1Runs : goal.encoded_len-requires-in-Delta1Runs
encoded_len-requires-in-Delta1Runs c = sized columns.delta1_runs c.args.static_width c.args.full.now (rw c.in-Delta1Runs.is at c.requires)
