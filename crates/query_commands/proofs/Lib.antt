pub mod QueryLemmas
pub mod QueryLaws
pub mod OneReplyLemmas
