pub mod CellLaws
pub mod PassesLaws
pub mod FrontLaws
pub mod Writes
