pub mod ChainLaws
pub mod WalkLaws
