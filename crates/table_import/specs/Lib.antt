pub mod Steps
pub mod Records
pub mod Imports
pub mod TableData
pub mod Reads
pub mod Growing
