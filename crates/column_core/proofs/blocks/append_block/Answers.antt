use Rattle.definitions_blocks.specs.Formats as columns
use Rattle.column_core.proofs.BlockLemmas.{sized}
use Rattle.column_core.proofs.blocks.append_block.Goals as goal

pub append-requires : goal.append-requires
append-requires c = sized columns.plain c.args.static_width c.args.full.now (rw c.in-Plain.is at c.requires)

pub append-requires-in-Runs : goal.append-requires-in-Runs
append-requires-in-Runs c = sized columns.runs c.args.static_width c.args.full.now (rw c.in-Runs.is at c.requires)

pub append-requires-in-Delta1Dynamic : goal.append-requires-in-Delta1Dynamic
append-requires-in-Delta1Dynamic c = sized columns.delta1_dynamic c.args.static_width c.args.full.now (rw c.in-Delta1Dynamic.is at c.requires)

pub append-requires-in-Delta16Dynamic : goal.append-requires-in-Delta16Dynamic
append-requires-in-Delta16Dynamic c = sized columns.delta16_dynamic c.args.static_width c.args.full.now (rw c.in-Delta16Dynamic.is at c.requires)

pub append-requires-in-ReferenceDynamic : goal.append-requires-in-ReferenceDynamic
append-requires-in-ReferenceDynamic c = sized columns.reference_dynamic c.args.static_width c.args.full.now (rw c.in-ReferenceDynamic.is at c.requires)

pub append-requires-in-Delta1Runs : goal.append-requires-in-Delta1Runs
append-requires-in-Delta1Runs c = sized columns.delta1_runs c.args.static_width c.args.full.now (rw c.in-Delta1Runs.is at c.requires)
