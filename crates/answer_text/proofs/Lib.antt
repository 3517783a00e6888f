pub mod LineLemmas
mod RecordLemmas
mod PrintLemmas
mod CheckExamples
mod ExportExamples
