pub mod Known
pub mod NameLemmas
mod WorkedExamples
