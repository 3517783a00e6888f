pub mod Squares
pub mod Counted
pub mod Tens
