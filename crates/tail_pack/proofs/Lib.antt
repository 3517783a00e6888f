pub mod Windows
pub mod LastBits
pub mod WordTotals
pub mod BegunTails
