mod RangeLaws
mod SizeLemmas
mod ChoiceLemmas
mod StrategyLemmas
mod StrategyLaws
pub mod WorkedExamples
pub mod PlanExamples
pub mod StrategyExamples
