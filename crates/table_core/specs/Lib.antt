pub mod Tables
pub mod Held
pub mod Views
pub mod Keys
