pub mod Formats
pub mod Counts
pub mod Emitters
