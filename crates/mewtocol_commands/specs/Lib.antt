pub mod Fields
pub mod Rows
pub mod Commands
pub mod Code
