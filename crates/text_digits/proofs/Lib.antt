pub mod Values
pub mod Running
pub mod Back
