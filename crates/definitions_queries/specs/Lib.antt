pub mod Tokens
pub mod Queries
pub mod Grammar
pub mod Lexing
pub mod Places
pub mod Texts
pub mod Entries
