pub mod Pair
pub mod Fields
pub mod Either
pub mod Lengths
