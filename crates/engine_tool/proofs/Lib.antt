pub mod TextLemmas
pub mod OneQueryLemmas
pub mod OneReplyLemmas
pub mod FaultLemmas
pub mod DidLemmas
pub mod SavedLemmas
pub mod EndLemmas
pub mod EndedLemmas
pub mod RunLemmas
mod WorkedExamples
