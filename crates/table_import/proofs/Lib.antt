mod AllLemmas
mod DigitLemmas
mod TextLemmas
mod RecordLemmas
mod ColumnLemmas
mod PushLemmas
mod RowLemmas
mod ReadLemmas
mod FinishLemmas
mod WholeLemmas
mod TableLemmas
pub mod ImportLaws
mod ImportExamples
