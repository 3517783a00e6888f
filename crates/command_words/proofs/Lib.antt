pub mod MatchingLemmas
pub mod NameLemmas
pub mod Read
