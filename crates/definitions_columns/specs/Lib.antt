pub mod Tails
pub mod ColumnFiles
pub mod FileFaults
pub mod Sizes
pub mod FileLaws
pub mod UnderWay
