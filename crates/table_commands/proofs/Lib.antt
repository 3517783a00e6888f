pub mod StepLemmas
pub mod CheckLemmas
pub mod CheckLaws
pub mod ImportLaws
pub mod ImportLemmas
pub mod HeldLemmas
pub mod OneReplyLemmas
pub mod OneImportLemmas
mod WorkedExamples
