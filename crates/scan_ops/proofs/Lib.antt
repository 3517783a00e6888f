pub mod EmitLaws
pub mod BatchLaws
pub mod BlockPlaceLaws
pub mod ProjectLaws
pub mod SetLaws
pub mod SetMeaningLaws
pub mod UnreadLaws
