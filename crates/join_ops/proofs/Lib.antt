pub mod KeyLaws
pub mod DenseLaws
pub mod DirectLaws
pub mod JoinLaws
pub mod MeaningLaws
pub mod DistinctLaws
pub mod HandingLaws
