pub mod Writing
pub mod Statements
