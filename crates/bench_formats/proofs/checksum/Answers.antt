use Rattle.bench_formats.proofs.Encoded.{dynamic_encoded, runs_encoded, delta1_dynamic_encoded, delta16_dynamic_encoded, reference_dynamic_encoded, delta1_runs_encoded}
use Rattle.bench_formats.proofs.checksum.Goals as goal

pub rounds_of-requires : goal.rounds_of-requires
rounds_of-requires c = dynamic_encoded

pub rounds_of-requires-in-Runs : goal.rounds_of-requires-in-Runs
rounds_of-requires-in-Runs c = runs_encoded

pub rounds_of-requires-in-Delta1Dynamic : goal.rounds_of-requires-in-Delta1Dynamic
rounds_of-requires-in-Delta1Dynamic c = delta1_dynamic_encoded

pub rounds_of-requires-in-Delta16Dynamic : goal.rounds_of-requires-in-Delta16Dynamic
rounds_of-requires-in-Delta16Dynamic c = delta16_dynamic_encoded

pub rounds_of-requires-in-ReferenceDynamic : goal.rounds_of-requires-in-ReferenceDynamic
rounds_of-requires-in-ReferenceDynamic c = reference_dynamic_encoded

pub rounds_of-requires-in-Delta1Runs : goal.rounds_of-requires-in-Delta1Runs
rounds_of-requires-in-Delta1Runs c = delta1_runs_encoded
