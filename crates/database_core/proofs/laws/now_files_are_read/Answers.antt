use Rattle.database_core.proofs.NowLemmas.{now_files_are_read}
use Rattle.database_core.proofs.laws.now_files_are_read.Goals as goal

pub returns : goal.returns
returns c = now_files_are_read
