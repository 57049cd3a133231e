pub mod Texts
pub mod Operations
pub mod Errors
pub mod Frames
pub mod Readings
pub mod Named
