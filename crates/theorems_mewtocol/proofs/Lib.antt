pub mod Data
pub mod Agree
pub mod Held
pub mod Example
pub mod Fields
pub mod Either
pub mod Lengths
