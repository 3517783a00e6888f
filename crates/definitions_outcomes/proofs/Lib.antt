pub mod ComputedLaws
pub mod OutcomeLaws
