pub mod Fold
pub mod Xor
pub mod Bits
pub mod Closed
