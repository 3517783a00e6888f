pub mod FileSizes
pub mod Tallies
pub mod Surveys
pub mod Sums
pub mod Profiles
pub mod FormatSums
pub mod FormatSizes
pub mod Reserved
