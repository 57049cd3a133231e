pub mod Asking
pub mod Code
