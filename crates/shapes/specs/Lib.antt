pub mod Generators
pub mod Lists
