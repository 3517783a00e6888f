pub mod Explaining
pub mod Asked
