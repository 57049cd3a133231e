pub mod Untouched
pub mod Kept
