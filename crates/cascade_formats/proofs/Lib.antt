pub mod CascadeParts
pub mod DeltaBlocks
pub mod ReferenceBlocks
pub mod Sums
pub mod Written
