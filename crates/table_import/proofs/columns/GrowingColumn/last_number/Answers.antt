use Rattle.table_import.proofs.ColumnLemmas.{last_of_texts}
use Rattle.table_import.proofs.columns.GrowingColumn.last_number.Goals as goal

pub returns-in-Texts : goal.returns-in-Texts
returns-in-Texts c = rw c.in-Texts.is (last_of_texts c.in-Texts.field-0)
