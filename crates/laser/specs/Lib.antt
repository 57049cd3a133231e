pub mod Frame
pub mod Statements
