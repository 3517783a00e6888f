pub mod PlaceLemmas
pub mod HeldLemmas
pub mod TableLemmas
pub mod CodeLemmas
pub mod KeyLemmas
mod TableExamples
