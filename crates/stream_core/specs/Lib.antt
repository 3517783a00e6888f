pub mod Calls
pub mod Stores
pub mod Memory
pub mod Entries
pub mod Faults
pub mod Files
pub mod Names
