pub mod Fold
pub mod Right
pub mod Line
