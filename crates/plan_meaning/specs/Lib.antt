pub mod StoredLists
pub mod JoinedRows
pub mod Columns
pub mod Operands
pub mod Shapes
pub mod Law
