pub mod Overwrite
pub mod Each
