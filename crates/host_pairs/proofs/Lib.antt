pub mod Signed
pub mod ThereAndBack
pub mod WorkedPairs
