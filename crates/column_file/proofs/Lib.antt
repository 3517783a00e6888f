pub mod ReadLemmas
pub mod FaultLemmas
pub mod EntryLemmas
