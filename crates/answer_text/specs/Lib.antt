pub mod Checks
pub mod HeldColumns
pub mod Exports
pub mod Records
pub mod Printed
