pub mod Codes
pub mod Asks
