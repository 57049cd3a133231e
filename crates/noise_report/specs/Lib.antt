pub mod Records
pub mod Numbers
pub mod Heard
pub mod Claims
pub mod Examples
