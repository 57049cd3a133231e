pub mod Site
pub mod Outcome
pub mod Station
pub mod Statements
