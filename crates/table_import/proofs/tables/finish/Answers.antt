use Rattle.table_import.proofs.FinishLemmas.{texts_lawful}
use Rattle.table_import.proofs.tables.finish.Goals as goal

pub finish-requires-clause-lawful : goal.finish-requires-clause-lawful
finish-requires-clause-lawful c = texts_lawful c.in-Texts.texts (rw c.in-Texts.is at c.requires.lawful)
