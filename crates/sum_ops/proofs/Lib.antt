pub mod ZipLaws
pub mod CellLaws
pub mod HalfLaws
pub mod EmitLaws
