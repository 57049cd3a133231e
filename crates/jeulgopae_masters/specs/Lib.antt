pub mod Codes
pub mod Statements
