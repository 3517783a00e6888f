pub mod Reading
pub mod Views
pub mod Readers
pub mod Cuts
pub mod Errors
