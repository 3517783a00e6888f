mod AccumulateLemmas
mod IndexLemmas
mod JoinLemmas
mod MentionLemmas
mod NameLemmas
mod AliasLemmas
mod OnceLemmas
mod NeedsLemmas
mod PlaceLemmas
mod SelectionLemmas
mod StepLemmas
mod SpelledLemmas
mod TableLaws
mod ConditionLaws
mod SelectionLaws
mod BindingLaws
mod StageLaws
pub mod BindingExamples
