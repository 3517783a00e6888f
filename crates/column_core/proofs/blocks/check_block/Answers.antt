use Rattle.column_core.proofs.blocks.check_block.Goals as goal

pub returns-in-Delta1Dynamic : goal.returns-in-Delta1Dynamic
returns-in-Delta1Dynamic c = rw c.in-Delta1Dynamic.is c.found-in-Delta1Dynamic.ensures

pub returns-in-Delta16Dynamic : goal.returns-in-Delta16Dynamic
returns-in-Delta16Dynamic c = rw c.in-Delta16Dynamic.is c.found-in-Delta16Dynamic.ensures

pub returns-in-ReferenceDynamic : goal.returns-in-ReferenceDynamic
returns-in-ReferenceDynamic c = rw c.in-ReferenceDynamic.is c.found-in-ReferenceDynamic.ensures

pub returns-in-Delta1Runs : goal.returns-in-Delta1Runs
returns-in-Delta1Runs c = rw c.in-Delta1Runs.is c.found-in-Delta1Runs.ensures
