pub mod Operators
pub mod Groups
pub mod Positions
pub mod Sums
pub mod Costs
