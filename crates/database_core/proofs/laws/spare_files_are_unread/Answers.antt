use Rattle.database_core.proofs.SameRowsLemmas.{spare_files_are_unread}
use Rattle.database_core.proofs.laws.spare_files_are_unread.Goals as goal

pub returns : goal.returns
returns c = spare_files_are_unread
