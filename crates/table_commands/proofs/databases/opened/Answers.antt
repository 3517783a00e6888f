use Rattle.table_commands.proofs.CheckLemmas.{names_within}
use Rattle.table_commands.proofs.databases.opened.Goals as goal

pub open_stop-requires : goal.open_stop-requires
open_stop-requires g c = names_within c.args.schema.now c.args.needs.now c.in-Err.error c.requires.ordered c.in-Err.ensures.named
