pub mod NumberLemmas
pub mod CodeLemmas
